use Rattle.std.proofs.Common.{◌++◌, ◌∙◌, ap, refl, arith}
use Rattle.std.specs.Fmt.{decimal}
use Rattle.std.proofs.lemmas.Fmt.{length-decimal-le}
use Rattle.calc_num.proofs.PrintedNumbers.Digits.{whole_placed}
use Rattle.calc_num.proofs.print.put_size.Goals as goal

pub write_digits-start-requires : goal.write_digits-start-requires
write_digits-start-requires c =
    (length-decimal-le 19 c.split-whole.result.0 (omega arith) (omega arith) (omega arith), omega arith)

pub returns-clause-start : goal.returns-clause-start
returns-clause-start c =
    let short = length-decimal-le 18 c.split-whole.result.0 (omega arith) (omega arith) (omega arith) in
    (omega arith, omega arith)

pub returns-clause-written : goal.returns-clause-written
returns-clause-written c =
    whole_placed c.put_fraction-end.new.bytes c.write_digits-start.new.buf c.write_digits-start.result c.put_fraction-end.result c.split-whole.result.0 (omega arith) (omega arith) c.write_digits-start.ensures.start c.write_digits-start.ensures.written ∙ ap (λ fraction. decimal c.split-whole.result.0 ++ fraction) c.put_fraction-end.ensures.written ∙ rw (c.split-whole.ensures.whole, c.split-whole.ensures.billionths) refl

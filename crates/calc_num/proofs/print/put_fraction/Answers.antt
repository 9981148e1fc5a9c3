use Rattle.std.proofs.Common.{◌+◌, arith}
use Rattle.std.proofs.lemmas.Fmt.{length-decimal-le}
use Rattle.std.proofs.lemmas.List.{take_rest}
use Rattle.calc_num.proofs.PrintedNumbers.Digits.{fraction_placed}
use Rattle.calc_num.proofs.print.put_fraction.Goals as goal

pub write_digits-requires : goal.write_digits-requires
write_digits-requires c =
    (length-decimal-le 29 (1000000000 + c.args.billionths) (omega arith) (omega arith) (omega arith), omega arith)

pub returns-clause-written : goal.returns-clause-written
returns-clause-written c =
    fraction_placed c.args.bytes.now c.write_digits.new.buf c.write_digits.result c.count_before_zeros.result c.args.billionths c.requires.size (omega arith) c.requires.fraction c.if-billionths-eq0.false c.write_digits.ensures.start c.write_digits.ensures.written (rw take_rest at c.count_before_zeros.ensures)

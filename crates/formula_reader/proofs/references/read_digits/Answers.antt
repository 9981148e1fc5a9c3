use Rattle.std.proofs.Common.{get_or, arith}
use Rattle.std.proofs.lemmas.Grind.{common_steps}
use Rattle.std.proofs.lemmas.Int.Digits.{digits_value_more}
use Rattle.calc_addr.proofs.Spelling.Digits.{digit_value_is}
use Rattle.formula_reader.proofs.references.read_digits.Goals as goal

pub loop-count-preserved : goal.loop-count-preserved
loop-count-preserved c =
    let i = c.loop-count.count in
    record {
      all = grind (arith, common_steps);
      value = omega (arith, digits_value_more 10 c.args.bytes.now i (omega arith), digit_value_is (get_or c.args.bytes.now i 0) c.if-not-is_ascii_digit.ensures.cases);
    }

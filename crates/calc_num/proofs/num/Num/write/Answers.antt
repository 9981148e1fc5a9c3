use Rattle.std.proofs.Common.{◌∷◌, ◌∙◌, FitsSigned, pos, nat_abs, ap, sym, subst, rules, arith}
use Rattle.std.specs.Int.{w128}
use Rattle.std.proofs.lemmas.Int.{to_z-of_z}
use lib.Signed.{le_z}
use Rattle.calc_num.specs.Decimals.{IsRaw}
use Rattle.calc_num.specs.Spelling.{reading}
use Rattle.calc_num.proofs.PrintedNumbers.Digits.{minus_placed, printed-negative, printed-positive}
use Rattle.calc_num.proofs.PrintedNumbers.RoundTrip.{reading-printed}
use Rattle.calc_num.proofs.num.Num.write.Goals as goal

pub returns-clause-value : goal.returns-clause-value
returns-clause-value c =
    let raw = c.raw-raw.result in
    let fits : FitsSigned w128 raw = search rules in
    let same = to_z-of_z w128 raw fits ∙ c.raw-raw.ensures.value in
    let size = c.unsigned_abs.ensures.value ∙ ap nat_abs same in
    let below = ap (le_z (pos 0)) (sym same) ∙ c.if-raw-ge0.false in
    minus_placed c.put_size-start.new.bytes c.put_size-start.result.0 c.put_size-start.result.1 (omega arith) (omega arith) (omega arith) ∙ ap (λ text. 45 ∷ text) c.put_size-start.ensures.written ∙ sym (printed-negative c.args.self c.unsigned_abs.result size below)

pub returns-then-raw-ge0-clause-read_back : goal.returns-then-raw-ge0-clause-read_back
returns-then-raw-ge0-clause-read_back c =
    let raw = c.raw-raw.result in
    let fits : FitsSigned w128 raw = search rules in
    let same = to_z-of_z w128 raw fits ∙ c.raw-raw.ensures.value in
    let size = c.unsigned_abs.ensures.value ∙ ap nat_abs same in
    let above = ap (le_z (pos 0)) (sym same) ∙ c.if-raw-ge0.true in
    let text = c.put_size-start.ensures.written ∙ sym (printed-positive c.args.self c.unsigned_abs.result size above) in
    ap reading text ∙ reading-printed c.args.self (subst IsRaw c.raw-raw.ensures.value c.raw-raw.ensures.in_range)

pub returns-clause-read_back : goal.returns-clause-read_back
returns-clause-read_back c =
    ap reading (returns-clause-value c) ∙ reading-printed c.args.self (subst IsRaw c.raw-raw.ensures.value c.raw-raw.ensures.in_range)

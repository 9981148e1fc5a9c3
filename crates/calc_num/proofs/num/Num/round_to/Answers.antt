use Rattle.std.proofs.Common.{◌≡◌, ◌^◌, ◌*◌, ◌∙◌, ap, sym, min, pos, int_lt, int_le, arith}
use Rattle.std.specs.Int.{w64}
use Rattle.std.proofs.lemmas.Int.{to_z-of_z}
use Rattle.calc_num.specs.Decimals.{checked, with_sign, pick, fewer_than_nine}
use Rattle.calc_num.proofs.Arithmetic.Signs.{sign-size}
use Rattle.calc_num.proofs.Arithmetic.Picks.{round_to_of_sizes}
use Rattle.calc_num.proofs.num.Num.round_to.Goals as goal

pub returns : goal.returns
returns c =
    let n = c.args.self in
    let way = c.args.way in
    let count = c.picked-count.result in
    let places = min (fewer_than_nine c.args.digits) 28 in
    let same = to_z-of_z w64 c.args.digits c.ranges.digits in
    let unit : c.unit_of-unit.result ≡ 10 ^ places =
    c.unit_of-unit.ensures.value ∙ ap (λ d. 10 ^ min (fewer_than_nine d) 28) same in
    let fewer = ap (int_le (pos 9)) (sym same) ∙ c.if-digits-ge9.false in
    let whole = ap (λ s. with_sign s c.size.result) c.is_negative.ensures ∙ ap (with_sign (int_lt n (pos 0))) c.size.ensures.value ∙ sign-size n in
    let picks : with_sign (int_lt n (pos 0)) count ≡ pick way n (10 ^ places) =
    ap (λ s. with_sign s count) (sym c.is_negative.ensures) ∙ c.picked-count.ensures.value ∙ ap (λ k. pick way k c.unit_of-unit.result) whole ∙ ap (pick way n) unit in
    c.from_any_size.ensures ∙ ap (λ s. checked (with_sign s (count * c.unit_of-unit.result))) c.is_negative-2.ensures ∙ ap (λ u. checked (with_sign (int_lt n (pos 0)) (count * u))) unit ∙ round_to_of_sizes way c.args.digits n count (omega arith) fewer picks

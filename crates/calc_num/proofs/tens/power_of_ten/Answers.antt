use Rattle.std.proofs.Common.{◌≡◌, ◌+◌, ◌-◌, ◌*◌, ◌^◌, ◌≤◌, ◌∙◌, ap, sym, arith}
use Rattle.std.proofs.Math.Nat.{pow-le-pow_right}
use Rattle.std.proofs.lemmas.Nat.{pow-add}
use Rattle.calc_num.proofs.ReadNumbers.Scale.{powers_of_ten, power_some}
use Rattle.calc_num.proofs.tens.power_of_ten.Goals as goal

pub with_zeros-requires-clause-number : goal.with_zeros-requires-clause-number
with_zeros-requires-clause-number c =
    let rest = c.args.places - c.min-zeros.result in
    let short : rest ≤ 18 = omega arith in
    rw (powers_of_ten rest short) (pow-le-pow_right {n = 10} (omega arith) {i = rest} {j = 18} short)

pub returns-clause-value : goal.returns-clause-value
returns-clause-value c =
    let zeros = c.min-zeros.result in
    let rest = c.args.places - zeros in
    let sum : rest + zeros ≡ c.args.places = omega arith in
    c.with_zeros.ensures.value ∙ ap (λ power. power * 10 ^ zeros) (powers_of_ten rest (omega arith)) ∙ sym (pow-add 10 rest zeros) ∙ ap (λ k. 10 ^ k) sum

pub returns-clause-bounds : goal.returns-clause-bounds
returns-clause-bounds c =
    let some = power_some c.args.places in
    let most = pow-le-pow_right {n = 10} (omega arith) {i = c.args.places} {j = 28} (omega arith) in
    let is = returns-clause-value c in
    (omega arith, omega arith)

use Rattle.std.proofs.Common.{Some, ap, sym, ◌∙◌, FitsSigned, arith, rules}
use Rattle.std.specs.Int.{w128}
use Rattle.std.proofs.lemmas.Int.{to_z-of_z}
use Rattle.std.specs.Option.{option_map}
use Rattle.calc_num.specs.Scaling.{size_of, near}
use Rattle.calc_num.specs.Spelling.{fraction_digits, behind_fraction, exponent}
use Rattle.calc_num.proofs.ReadNumbers.Readings.{size_of-parts}
use Rattle.calc_num.proofs.parse.read_unsigned.Goals as goal

pub returns : goal.returns
returns c =
    let whole = c.split_digits.result.0.bytes.now in
    let fraction = c.split_fraction.result.0.bytes.now in
    let e = c.in_ok-exponent.exponent in
    let fits : FitsSigned w128 e = search rules in
    let exact = ap (λ p. size_of record { whole = whole; fraction = fraction; exponent = p }) (to_z-of_z w128 e fits) in
    let rest = c.split_digits.ensures.rest in
    let behind = ap fraction_digits rest in
    let is_near = sym (ap (λ ds. option_map near (exponent ds)) (c.split_fraction.ensures.rest ∙ ap behind_fraction rest)) ∙ sym c.read_exponent.ensures ∙ c.in_ok-exponent.was in
    ap Some (c.scaled.ensures ∙ exact) ∙ size_of-parts c.args.text.now whole fraction e c.split_digits.ensures.digits (c.split_fraction.ensures.digits ∙ behind) (omega arith) (omega arith) (sym c.if-is_bare.ensures) is_near

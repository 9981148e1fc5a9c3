use Rattle.std.proofs.Common.{◌≡◌, ◌<ℤ◌, ◌-◌, pos, suc, sym, subst, arith, to_z, of_z, w64}
use Rattle.std.proofs.lemmas.Int.{ints, to_z-of_z}
use lib.IntN.{nat_abs}
use Rattle.std.specs.Result.{IfOk}
use Rattle.calc_model.specs.Arguments.{meanings_of}
use Rattle.calc_model.specs.Lookup.{chosen}
use Rattle.fn_lookup.proofs.Numbering.{chosen-below}
use Rattle.fn_lookup.proofs.choices.chosen.Goals as goal

pub returns-then-number-lt1 : goal.returns-then-number-lt1
returns-then-number-lt1 g c =
    let same : to_z w64 (of_z w64 c.args.number) ≡ c.args.number = to_z-of_z w64 c.args.number c.ranges.number in
    let below : c.args.number <ℤ pos 1 = omega (arith, ints, same, c.if-number-lt1.true) in
    sym (chosen-below (meanings_of c.args.home (g.V.Values.values c.args.values.now) c.args.others.now) c.args.number below)

pub returns : goal.returns
returns g c =
    let same : to_z w64 (of_z w64 c.args.number) ≡ c.args.number = to_z-of_z w64 c.args.number c.ranges.number in
    let e : pos (suc (nat_abs (to_z w64 (of_z w64 c.args.number)) - 1)) ≡ c.args.number = omega (arith, ints, same, c.if-number-lt1.false) in
    subst (λ n. IfOk c.chosen_at.result (λ v. v ≡ chosen (meanings_of c.args.home (g.V.Values.values c.args.values.now) c.args.others.now) n)) e c.chosen_at.ensures

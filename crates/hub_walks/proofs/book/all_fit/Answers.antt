use Rattle.std.proofs.Common.{◌≡◌, length, take, refl, subst, ap, ◌∙◌, arith}
use Rattle.std.proofs.Math.Seq.{take-length}
use Rattle.std.proofs.lemmas.List.Elements.{All-more}
use Rattle.std.specs.List.{All}
use Rattle.ears.specs.RunAreas.{LieInSheet}
use Rattle.hub_walks.proofs.book.all_fit.Goals as goal

pub loop-ear-preserved : goal.loop-ear-preserved
loop-ear-preserved c =
    All-more (LieInSheet c.args.steps) c.args.ears.now c.loop-ear.ear-index c.ear-item.result c.loop-ear-test.true c.loop-ear.invariant
    (subst (LieInSheet c.args.steps) c.ear-item.is (c.if-not-fits.ensures refl))

pub returns : goal.returns
returns c h =
    let end : c.loop-ear.ear-index ≡ length c.args.ears.now = omega (arith, c.loop-ear-test.false, c.loop-ear.auto.ear-index-end) in
    subst (All (LieInSheet c.args.steps)) (ap (λ n. take n c.args.ears.now) end ∙ take-length c.args.ears.now) c.loop-ear.invariant

use Rattle.std.proofs.Common.{subst, ◌∙◌}
use Rattle.std.specs.List.{All}
use Rattle.std.proofs.lemmas.List.{take_all}
use Rattle.std.proofs.lemmas.List.Elements.{All-more}
use Rattle.calc_addr.specs.Places.{IsRectangle}
use Rattle.calc_model.specs.Ears.{ReadArea}
use Rattle.formula_listeners.proofs.runs.lie_in_sheet.Goals as goal

pub loop-ear-preserved : goal.loop-ear-preserved
loop-ear-preserved c =
    All-more (λ ear. IsRectangle ear.area) c.args.ears.now c.loop-ear.ear-index c.ear-item.result c.loop-ear-test.true c.loop-ear.invariant
    (subst (λ (e : ReadArea). IsRectangle e.area) (c.ear.view_is ∙ c.ear-item.is) c.lies_in_sheet.ensures)

pub returns : goal.returns
returns c = subst (All (λ ear. IsRectangle ear.area)) (take_all c.loop-ear.ear-index c.args.ears.now c.loop-ear-test.false) c.loop-ear.invariant

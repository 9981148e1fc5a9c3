use Rattle.std.proofs.Common.{◌≤◌, sym, subst, ◌∙◌}
use Rattle.ears.specs.RowEdits.{GoTogether}
use Rattle.ears.proofs.Together.{go_together, others_stay, whole_within}
use Rattle.ears.proofs.row_edit.whole_steps.Goals as goal

pub returns-then-here-clause-within : goal.returns-then-here-clause-within
returns-then-here-clause-within c = subst (λ n. n ≤ c.args.steps) (sym c.whole_on_sheet.ensures) (whole_within c.args.edit.now c.args.ear.now c.args.steps)

pub returns-then-here-clause-together : goal.returns-then-here-clause-together
returns-then-here-clause-together c =
    subst (GoTogether c.args.edit.now c.args.ear.now) (sym c.whole_on_sheet.ensures)
    (go_together c.args.edit.now c.args.ear.now c.args.steps c.requires.edit c.requires.run (sym c.is_on_sheet-here.ensures ∙ c.if-here.true))

pub returns-else-here-clause-together : goal.returns-else-here-clause-together
returns-else-here-clause-together c = others_stay c.args.edit.now c.args.ear.now c.args.steps (sym c.is_on_sheet-here.ensures ∙ c.if-here.false)

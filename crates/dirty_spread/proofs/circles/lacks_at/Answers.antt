use Rattle.std.proofs.Common.{not, sym, ap, ◌∙◌}
use Rattle.dirty_spread.specs.Waves.{has}
use Rattle.dirty_spread.proofs.Found.{at_none, at_some}
use Rattle.dirty_spread.proofs.circles.lacks_at.Goals as goal

pub returns-in-Some : goal.returns-in-Some
returns-in-Some c =
    let here = at_some c.args.circles.now c.args.place c.in-Some.cell (sym c.in-Some.ensures) in
    c.lacks.ensures ∙ sym (ap (λ p. not (has c.args.cells.now p)) here.1)

pub returns-in-None : goal.returns-in-None
returns-in-None c = absurd (at_none c.args.circles.now c.args.place (sym c.in-None.ensures) c.requires)

use Rattle.std.proofs.Common.{◌≤◌, sym, subst, eq-eqb, ◌∙◌}
use Rattle.std.specs.Option.{ForSome}
use Rattle.calc_addr.specs.declared.cell.TheConstants.{LAST_ROW}
use Rattle.calc_addr.specs.Places.{Rows}
use Rattle.ears.specs.RowEdits.{run_after}
use Rattle.ears.proofs.RunsMoved.{stays_rows}
use Rattle.ears.proofs.row_edit.run_after.Goals as goal

pub invariant_of-result-2 : goal.invariant_of-result-2
invariant_of-result-2 c =
    stays_rows c.args.edit.now _ c.in_ok-first.first c.requires.edit c.run.invariant (eq-eqb _ _ c.if-not-here.false) (sym c.row_by.ensures ∙ c.in_ok-first.was {u = tt})
    (subst (λ (z : Rows). ForSome (run_after c.args.edit.now z) (λ r. r.last ≤ LAST_ROW)) (sym c.run.view_is) c.requires.stays)

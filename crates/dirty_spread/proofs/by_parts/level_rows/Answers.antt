use Rattle.std.proofs.Common.{◌≡◌, ◌+◌, ◌≤◌, List, length, sym, subst, arith}
use Rattle.std.specs.Prelude.{IfSome}
use Rattle.calc_addr.specs.Places.{Rectangle}
use Rattle.dirty_spread.specs.ByParts.{areas_below}
use Rattle.calc_model.specs.Listeners.{ReadAreas}
use Rattle.dirty_spread.specs.Levels.{AreUnderWay, IsLooked, read_by}
use Rattle.dirty_spread.specs.Waves.{Problem, problem_of}
use Rattle.dirty_spread.proofs.RowLevels.{settled_more}
use Rattle.dirty_spread.proofs.by_parts.level_rows.Goals as goal
use Rattle.dirty_spread.proofs.by_parts.level_rows.Goals.{then-levels-at-eq-NEW+in_ok-cursor+in-Some, else-levels-at-eq-NEW}

pub overflow_add-at : goal.overflow_add-at
overflow_add-at g c = let row = c.requires.rows c.loop-step.step c.loop-step-test.true in omega (arith, row.0, c.loop-step.invariant.ordering.size, c.loop-step.auto.levels)

pub offset_bounds-levels-at : goal.offset_bounds-levels-at
offset_bounds-levels-at g c = let row = c.requires.rows c.loop-step.step c.loop-step-test.true in omega (arith, row.0, c.loop-step.invariant.ordering.size, c.loop-step.auto.levels)

pub bounds-levels-at : goal.bounds-levels-at
bounds-levels-at g c = let row = c.requires.rows c.loop-step.step c.loop-step-test.true in omega (arith, row.0, c.loop-step.invariant.ordering.size)

pub loop-step-preserved : goal.loop-step-preserved
loop-step-preserved g c =
    let read : ReadAreas = g.H.Dependents.areas c.args.hub.now in
    let p : Problem = problem_of read c.args.stale.now c.args.circles.now in
    let place = c.args.place + c.loop-step.step in
    let row = c.requires.rows c.loop-step.step c.loop-step-test.true in
    elim c.if-levels-at-eq-NEW.branch [
      | then-levels-at-eq-NEW+in_ok-cursor+in-Some w ↦
          let areas : areas_below c.args.ears.now c.loop-step.step ≡ read_by p place = sym row.1 in
          let found = subst (λ o. IfSome o (λ cursor. (length (areas_below c.args.ears.now c.loop-step.step) ≤ cursor.area) × IsLooked p.stale p.circular (areas_below c.args.ears.now c.loop-step.step) c.loop-step.levels cursor)) w.in-Some.is w.in_ok-cursor.ensures in
          subst (λ ls. AreUnderWay read c.args.stale.now c.args.circles.now ls) (sym w.levels-is)
          (settled_more read c.args.stale.now c.args.circles.now c.loop-step.levels c.loop-step.invariant place (omega (arith, row.0, c.loop-step.invariant.ordering.size)) w.if-levels-at-eq-NEW.true w.in-Some.cursor
          (subst (λ (as' : List Rectangle). length as' ≤ w.in-Some.cursor.area) areas found.0)
          (subst (λ (as' : List Rectangle). IsLooked p.stale p.circular as' c.loop-step.levels w.in-Some.cursor) areas found.1))
      | else-levels-at-eq-NEW w ↦ subst (λ ls. AreUnderWay read c.args.stale.now c.args.circles.now ls) (sym w.levels-is) c.loop-step.invariant
    ]

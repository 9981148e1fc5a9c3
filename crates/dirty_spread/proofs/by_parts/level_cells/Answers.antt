use Rattle.std.proofs.Common.{◌≡◌, ◌≤◌, List, length, sym, subst, ◌∙◌, arith}
use Rattle.calc_addr.specs.Places.{Rectangle}
use Rattle.calc_model.specs.Listeners.{ReadAreas}
use Rattle.dirty_spread.specs.Levels.{AreUnderWay, IsLooked, read_by}
use Rattle.dirty_spread.specs.Waves.{Problem, problem_of}
use Rattle.dirty_spread.proofs.RowLevels.{settled_more}
use Rattle.dirty_spread.proofs.by_parts.level_cells.Goals as goal
use Rattle.dirty_spread.proofs.by_parts.level_cells.Goals.{then-levels-at-eq-NEW+in_ok-read_areas+in-Some, else-levels-at-eq-NEW}

pub loop-at-preserved : goal.loop-at-preserved
loop-at-preserved g c =
    let read : ReadAreas = g.H.Dependents.areas c.args.hub.now in
    let p : Problem = problem_of read c.args.stale.now c.args.circles.now in
    let at = c.loop-at.at in
    elim c.if-levels-at-eq-NEW.branch [
      | then-levels-at-eq-NEW+in_ok-read_areas+in-Some w ↦
          let areas : w.deref.result.now ≡ read_by p at = w.deref.ensures.value ∙ w.in_ok-read_areas.ensures in
          subst (λ ls. AreUnderWay read c.args.stale.now c.args.circles.now ls) (sym w.levels-is)
          (settled_more read c.args.stale.now c.args.circles.now c.loop-at.levels c.loop-at.invariant at (omega (arith, c.loop-at-test.true, c.requires.within, c.loop-at.invariant.ordering.size)) w.if-levels-at-eq-NEW.true w.in-Some.cursor
          (subst (λ (as' : List Rectangle). length as' ≤ w.in-Some.cursor.area) areas w.in-Some.ensures.0)
          (subst (λ (as' : List Rectangle). IsLooked p.stale p.circular as' c.loop-at.levels w.in-Some.cursor) areas w.in-Some.ensures.1))
      | else-levels-at-eq-NEW w ↦ subst (λ ls. AreUnderWay read c.args.stale.now c.args.circles.now ls) (sym w.levels-is) c.loop-at.invariant
    ]

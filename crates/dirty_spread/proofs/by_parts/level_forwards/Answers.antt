use Rattle.std.proofs.Common.{sym, subst, arith}
use Rattle.cell_runs.specs.CellLists.{all_cells}
use Rattle.dirty_spread.specs.ByParts.{AreRowsAt}
use Rattle.dirty_spread.proofs.RowLevels.{cells_more, run_rows, runs_fit}
use Rattle.dirty_spread.proofs.by_parts.level_forwards.Goals as goal

pub level_run-requires-clause-rows : goal.level_run-requires-clause-rows
level_run-requires-clause-rows g c =
    subst (λ cells. AreRowsAt cells c.index-runs-turn.result c.loop-turn.place) c.requires.runs
    (subst (λ n. AreRowsAt (all_cells c.args.runs.now) c.index-runs-turn.result n) (sym c.loop-turn.invariant.place)
    (run_rows c.args.runs.now c.loop-turn.turn c.index-runs-turn.result c.loop-turn-test.true c.index-runs-turn.is))

pub overflow_add-place : goal.overflow_add-place
overflow_add-place g c =
    let fit = runs_fit c.args.runs.now c.args.stale.now c.requires.runs c.loop-turn.turn c.index-runs-turn.result c.loop-turn-test.true c.index-runs-turn.is in
    omega (arith, fit, c.loop-turn.invariant.place, c.count_of-place.ensures, c.requires.under_way.ordering.size, c.loop-turn.auto.levels)

pub loop-turn-preserved : goal.loop-turn-preserved
loop-turn-preserved g c =
    let more = cells_more c.args.runs.now c.loop-turn.turn c.index-runs-turn.result c.loop-turn-test.true c.index-runs-turn.is in
    record {
      within = omega (arith, c.loop-turn-test.true);
      place = omega (arith, more, c.loop-turn.invariant.place, c.count_of-place.ensures);
      under_way = c.in_ok-level_run.ensures;
    }

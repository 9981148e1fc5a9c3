use Rattle.std.proofs.Common.{◌≡◌, ◌-◌, subst, arith}
use Rattle.cell_runs.specs.CellLists.{all_cells}
use Rattle.dirty_spread.specs.ByParts.{AreRowsAt, cells_before}
use Rattle.dirty_spread.proofs.RowLevels.{cells_less, run_rows}
use Rattle.dirty_spread.proofs.by_parts.level_backwards.Goals as goal

pub overflow_sub-place : goal.overflow_sub-place
overflow_sub-place g c =
    let less = cells_less c.args.runs.now c.loop-left.left c.index-runs-left.result (omega (arith, c.loop-left-test.true)) c.loop-left.invariant.within c.index-runs-left.is in
    omega (arith, less, c.loop-left.invariant.place, c.count_of-place.ensures)

pub level_run-requires-clause-rows : goal.level_run-requires-clause-rows
level_run-requires-clause-rows g c =
    let less = cells_less c.args.runs.now c.loop-left.left c.index-runs-left.result (omega (arith, c.loop-left-test.true)) c.loop-left.invariant.within c.index-runs-left.is in
    let place : cells_before c.args.runs.now (c.loop-left.left - 1) ≡ c.loop-left.place - c.count_of-place.result = omega (arith, less, c.loop-left.invariant.place, c.count_of-place.ensures) in
    subst (λ cells. AreRowsAt cells c.index-runs-left.result (c.loop-left.place - c.count_of-place.result)) c.requires.runs
    (subst (λ n. AreRowsAt (all_cells c.args.runs.now) c.index-runs-left.result n) place
    (run_rows c.args.runs.now (c.loop-left.left - 1) c.index-runs-left.result (omega (arith, c.loop-left-test.true, c.loop-left.invariant.within)) c.index-runs-left.is))

pub loop-left-preserved : goal.loop-left-preserved
loop-left-preserved g c =
    let less = cells_less c.args.runs.now c.loop-left.left c.index-runs-left.result (omega (arith, c.loop-left-test.true)) c.loop-left.invariant.within c.index-runs-left.is in
    record {
      within = omega (arith, c.loop-left.invariant.within);
      place = omega (arith, less, c.loop-left.invariant.place, c.count_of-place.ensures);
      under_way = c.in_ok-level_run.ensures;
    }

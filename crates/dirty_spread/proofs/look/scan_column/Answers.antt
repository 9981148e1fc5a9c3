use Rattle.std.proofs.Common.{sym, subst, ◌+◌}
use Rattle.dirty_spread.specs.Levels.{IsColumnScan}
use Rattle.dirty_spread.proofs.Scans.{column_more}
use Rattle.dirty_spread.proofs.look.scan_column.Goals as goal

pub loop-place-preserved : goal.loop-place-preserved
loop-place-preserved c =
    subst (λ n. IsColumnScan c.args.cells.now c.args.levels.now c.args.area.now c.args.first c.args.last c.args.least (c.loop-place.place + 1) n) (sym c.max-greatest.ensures)
    (column_more c.args.cells.now c.requires.in_order c.args.levels.now c.args.area.now c.requires.column c.args.first c.args.last c.args.least c.requires.last
    c.loop-place.place c.loop-place.greatest c.loop-place.invariant c.loop-place-test.true c.if-levels-place-ge-FIRST.true)

use Rattle.std.proofs.Common.{sym, subst, arith}
use Rattle.dirty_spread.specs.Levels.{IsScan}
use Rattle.dirty_spread.proofs.Scans.{scan_more}
use Rattle.dirty_spread.proofs.look.scan_all.Goals as goal

pub loop-place-preserved : goal.loop-place-preserved
loop-place-preserved c = record {
  from = omega (arith, c.loop-place.invariant.from, c.next_of-place.ensures.from);
  scan = subst (λ n. IsScan c.args.cells.now c.args.levels.now c.args.area.now c.args.from c.args.least c.next_of-place.result n) (sym c.max-greatest.ensures)
      (scan_more c.args.cells.now c.args.levels.now c.args.area.now c.args.from c.args.least c.loop-place.place c.loop-place.greatest c.loop-place.invariant.scan (omega (arith, c.loop-place-test.true, c.requires.size)) c.if-levels-place-ge-FIRST.true
      c.next_of-place.result c.next_of-place.ensures.next);
}

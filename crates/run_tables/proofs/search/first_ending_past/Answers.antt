use Rattle.std.proofs.Common.{◌≤◌, ◌<◌, ◌+◌, ◌-◌, ◌/◌, arith}
use Rattle.run_tables.proofs.Places.{at_place}
use Rattle.run_tables.proofs.search.first_ending_past.Goals as goal

pub loop-low-preserved-then-last-row : goal.loop-low-preserved-then-last-row
loop-low-preserved-then-last-row g c = record {
  order = omega arith;
  within = omega arith;
  before = λ j e. at_place g.P.Piece.run c.args.table.now (c.loop-low.low + (c.loop-low.high - c.loop-low.low) / 2) j c.index-table-middle.result (λ r. r.last ≤ c.args.row) (omega arith) c.index-table-middle.is (omega arith) (omega (arith, c.last.ensures));
  here = c.loop-low.invariant.here;
}

pub loop-low-preserved : goal.loop-low-preserved
loop-low-preserved g c = record {
  order = omega arith;
  within = omega arith;
  before = c.loop-low.invariant.before;
  here = at_place g.P.Piece.run c.args.table.now (c.loop-low.low + (c.loop-low.high - c.loop-low.low) / 2) (c.loop-low.low + (c.loop-low.high - c.loop-low.low) / 2) c.index-table-middle.result (λ r. c.args.row < r.last) (omega arith) c.index-table-middle.is (omega arith) (omega (arith, c.last.ensures));
}

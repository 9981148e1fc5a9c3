use Rattle.std.proofs.Common.{◌≤◌, ◌-◌}
use Rattle.dirty_spread.specs.Marking.{IsFront}
use Rattle.dirty_spread.proofs.marking.mark_front.Given as goal

abbrev pub invariant-loop-at : goal.invariant-loop-at
invariant-loop-at l = record {
  from : l.from ≤ l.at;
  end : l.at ≤ l.end;
  front : IsFront l.initial.marks l.marks l.from l.at;
}

abbrev pub decreases-loop-at : goal.decreases-loop-at
decreases-loop-at l = l.end - l.at

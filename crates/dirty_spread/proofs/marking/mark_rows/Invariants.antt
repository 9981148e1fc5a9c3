use Rattle.std.proofs.Common.{◌≤◌, ◌-◌}
use Rattle.dirty_spread.specs.Marking.{MarksFront}
use Rattle.dirty_spread.proofs.marking.mark_rows.Given as goal

abbrev pub invariant-loop-next : goal.invariant-loop-next
invariant-loop-next l = record {
  from : l.from ≤ l.next;
  end : l.next ≤ l.end;
  marks : MarksFront l.run l.from (l.next - l.from) l.initial.marks l.marks l.initial.found.items l.found.items;
}

abbrev pub decreases-loop-next : goal.decreases-loop-next
decreases-loop-next l = l.end - l.next

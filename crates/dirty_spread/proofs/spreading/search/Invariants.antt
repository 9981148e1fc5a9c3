use Rattle.std.proofs.Common.{◌+◌, ◌-◌, length}
use Rattle.dirty_spread.specs.Marking.{IsSpreading, fresh}
use Rattle.dirty_spread.proofs.spreading.search.Given as goal

abbrev pub invariant-loop-head : goal.invariant-loop-head
invariant-loop-head g l = IsSpreading (g.H.Dependents.areas l.hub) l.formulas l.touched l.marks l.found.items l.head

-- cells that aren't marked, and runs that aren't followed
abbrev pub decreases-loop-head : goal.decreases-loop-head
decreases-loop-head g l = fresh l.marks + (length l.found.items - l.head)

use Rattle.std.proofs.Common.{◌≡◌, true, take}
use Rattle.dirty_spread.specs.Marking.{Marks, reads_any_of}
use Rattle.dirty_spread.specs.Spreading.{IsStale}
use Rattle.dirty_spread.proofs.spreading.follow_areas.Given as goal

abbrev pub invariant-loop-area : goal.invariant-loop-area
invariant-loop-area g l =
    let read = g.H.Dependents.areas l.hub in
    Marks l.formulas (λ q. reads_any_of read (take l.area-index l.areas) q ≡ true) (IsStale read l.areas) l.initial.marks l.marks l.initial.found.items l.found.items

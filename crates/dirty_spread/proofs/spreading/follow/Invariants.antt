use Rattle.std.proofs.Common.{◌≡◌, true, take}
use Rattle.calc_model.specs.Listeners.{ReachesArea}
use Rattle.dirty_spread.specs.Marking.{Marks, is_in_any}
use Rattle.dirty_spread.proofs.spreading.follow.Given as goal

abbrev pub invariant-loop-run : goal.invariant-loop-run
invariant-loop-run g l =
    Marks l.formulas (λ q. is_in_any q (take l.run-index l.run-items) ≡ true) (ReachesArea (g.H.Dependents.areas l.hub) l.fn.area) l.initial.marks l.marks l.initial.found.items l.found.items

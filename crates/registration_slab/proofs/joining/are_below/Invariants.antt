use Rattle.std.proofs.Common.{◌≡◌, map, take}
use Rattle.ears.specs.RunAreas.{ear_below}
use Rattle.registration_slab.proofs.joining.are_below.Given as goal

abbrev pub invariant-loop-at : goal.invariant-loop-at
invariant-loop-at l = take l.at l.next ≡ map (λ e. ear_below e l.step) (take l.at l.ears)

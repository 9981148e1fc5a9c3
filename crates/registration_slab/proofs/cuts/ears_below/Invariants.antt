use Rattle.std.proofs.Common.{◌≡◌, map, take}
use Rattle.ears.specs.RunAreas.{ear_below}
use Rattle.registration_slab.proofs.cuts.ears_below.Given as goal

abbrev pub invariant-loop-ear : goal.invariant-loop-ear
invariant-loop-ear l = l.below.items ≡ map (λ e. ear_below e l.step) (take l.ear-index l.ears)

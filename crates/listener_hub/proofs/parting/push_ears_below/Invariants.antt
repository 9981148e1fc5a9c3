use Rattle.std.proofs.Common.{◌≡◌, ◌≤◌, ◌+◌, ◌++◌, length, map, take}
use Rattle.std.specs.Vec.{vec_capacity, vec_len}
use Rattle.ears.specs.RunAreas.{ear_below}
use Rattle.listener_hub.proofs.parting.push_ears_below.Given as goal

abbrev pub invariant-loop-ear : goal.invariant-loop-ear
invariant-loop-ear l = (l.out.items ≡ l.fn.out.items ++ map (λ e. ear_below e l.step) (take l.ear-index l.ears)) × (vec_len l.out + length l.ears ≤ vec_capacity l.out + l.ear-index)

use Rattle.std.proofs.Common.{◌≡◌, ◌≤◌, ◌+◌, ◌++◌, length, map, take}
use Rattle.std.specs.Vec.{vec_capacity, vec_len}
use Rattle.calc_model.specs.Ears.{area_at}
use Rattle.listener_hub.proofs.readers.push_areas.Given as goal

abbrev pub invariant-loop-ear : goal.invariant-loop-ear
invariant-loop-ear l = (l.out.items ≡ l.fn.out.items ++ map (λ e. area_at e l.step) (take l.ear-index l.ears)) × (vec_len l.out + length l.ears ≤ vec_capacity l.out + l.ear-index)

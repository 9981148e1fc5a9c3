use Rattle.std.proofs.Common.{◌≡◌, ◌&&◌, ◌||◌, nat_lt, ℕ}
use Rattle.std.specs.List.{list_any}
use Rattle.area_listeners.specs.Pairs.{has_id}
use Rattle.area_listeners.specs.Spots.{is_met}
use Rattle.area_listeners.proofs.gathering.push_all.Given as goal

abbrev pub invariant-loop-class : goal.invariant-loop-class
invariant-loop-class l = (i : ℕ) → has_id l.out.items i ≡ (has_id l.fn.out.items i || list_any (λ s. nat_lt s.class l.class && is_met l.area i s) l.spots.keys)

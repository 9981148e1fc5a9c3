use Rattle.std.proofs.Common.{◌≡◌, ◌||◌, ℕ}
use Rattle.std.specs.List.{list_any}
use Rattle.area_listeners.specs.Pairs.{has_id}
use Rattle.area_listeners.specs.Spots.{is_met}
use Rattle.area_listeners.proofs.gathering.push_columns.Given as goal

abbrev pub invariant-loop-spot : goal.invariant-loop-spot
invariant-loop-spot l = (i : ℕ) → (has_id l.out.items i || list_any (is_met l.area i) l.spot-iterator) ≡ (has_id l.fn.out.items i || list_any (is_met l.area i) l.initial.spot-iterator)

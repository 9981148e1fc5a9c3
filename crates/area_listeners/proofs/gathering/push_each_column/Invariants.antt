use Rattle.std.proofs.Common.{◌≡◌, ◌&&◌, ◌||◌, nat_lt, ℕ}
use Rattle.std.specs.List.{list_any}
use Rattle.area_listeners.specs.Pairs.{has_id}
use Rattle.area_listeners.specs.Spots.{is_met_in}
use Rattle.area_listeners.proofs.gathering.push_each_column.Given as goal

abbrev pub invariant-loop-column : goal.invariant-loop-column
invariant-loop-column l = (i : ℕ) → has_id l.out.items i ≡ (has_id l.fn.out.items i || list_any (λ s. nat_lt s.column l.column && is_met_in l.window.class l.area i s) l.spots.keys)

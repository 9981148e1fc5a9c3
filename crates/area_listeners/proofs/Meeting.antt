-- What a walk found, sorted and without repeats, are the ids of the pairs that meet.
use Rattle.std.proofs.Common.{◌≡◌, ℕ, true, nat_eq, List, map, sym, ◌∙◌}
use Rattle.std.specs.Cmp.{nat_eq_equiv}
use Rattle.std.specs.List.{dedup, list_any}
use Rattle.std.specs.List.Sorted.{IsPermutation, IsSorted}
use Rattle.std.specs.Ordering.{nat_cmp}
use Rattle.std.proofs.lemmas.Bool.{eqb-true}
use Rattle.std.proofs.lemmas.List.Kept.{Contains-dedup_nat, Contains-from_dedup}
use Rattle.std.proofs.lemmas.List.Sorted.{Contains-permutation, IsPermutation-sym}
use Rattle.std.proofs.lemmas.Map.Keys.{IsStrictlyIncreasing-dedup}
use Rattle.std.proofs.lemmas.Map.Views.{Contains-from_any, list_any-from_Contains}
use Rattle.calc_addr.specs.Places.{Rectangle}
use Rattle.ears.proofs.Meetings.{both_ways}
use Rattle.area_listeners.specs.declared.spot.Spot.{Spot}
use Rattle.area_listeners.specs.Pairs.{AreMeeting, has_id, is_told}
use Rattle.area_listeners.specs.Spots.{is_met, listener_of}
use Rattle.area_listeners.proofs.Held.{any_map}

module _ (raw sorted : List ℕ) (moved : IsPermutation raw sorted) (id : ℕ) where
  kept_id : has_id raw id ≡ true → has_id (dedup nat_eq sorted) id ≡ true
  kept_id h = list_any-from_Contains nat_eq_equiv id (dedup nat_eq sorted) (Contains-dedup_nat sorted id (Contains-permutation raw sorted id moved (Contains-from_any eqb-true id raw h)))

  id_kept : has_id (dedup nat_eq sorted) id ≡ true → has_id raw id ≡ true
  id_kept h = list_any-from_Contains nat_eq_equiv id raw (Contains-permutation sorted raw id (IsPermutation-sym raw sorted moved) (Contains-from_dedup nat_eq sorted id (Contains-from_any eqb-true id (dedup nat_eq sorted) h)))

pub are_meeting : (keys : List Spot) (area : Rectangle) (raw sorted : List ℕ) → ((i : ℕ) → has_id raw i ≡ list_any (is_met area i) keys) → IsPermutation raw sorted → IsSorted nat_cmp sorted
    → AreMeeting (map listener_of keys) area (dedup nat_eq sorted)
are_meeting keys area raw sorted found moved in_order = record {
  rising = IsStrictlyIncreasing-dedup sorted in_order;
  exact = λ id. both_ways _ _ (id_kept raw sorted moved id) (kept_id raw sorted moved id) ∙ found id ∙ sym (any_map (is_told area id) listener_of keys);
}

-- What is put in or taken out leaves all pairs where they belong.
use Rattle.std.proofs.Common.{◌≡◌, ℕ, ◌<◌, Bool, true, false, cond, not, ◌&&◌, ◌||◌, List, length, map, slice_index_or, slice_set, ⊎_elim, sym, ap, subst, ◌∙◌}
use Rattle.std.specs.List.{All, list_any}
use Rattle.std.specs.BTreeSet.{insert_key}
use Rattle.std.specs.Set.{remove_key}
use Rattle.std.specs.Ordering.{is_eq}
use Rattle.std.proofs.lemmas.Bool.{cases_eq}
use Rattle.std.proofs.lemmas.List.{get_or-set_other, get_or-set_same}
use Rattle.std.proofs.lemmas.List.Elements.{All-weaker}
use Rattle.std.proofs.lemmas.Map.Views.{All-insert_key, All-remove_key}
use Rattle.calc_addr.specs.Places.{IsRectangle}
use Rattle.area_listeners.specs.declared.listener.Listener.{Listener}
use Rattle.area_listeners.specs.declared.spot.Spot.{Spot}
use Rattle.area_listeners.specs.Pairs.{holds, is_same}
use Rattle.area_listeners.specs.Spots.{IsInUse, IsPlaced, area_of, compared, listener_of, spot_of}
use Rattle.area_listeners.proofs.Held.{held, put_in, same_one, taken_out}

abbrev pub AreKept : List Spot → List Bool → Type 0
AreKept keys used = All IsPlaced keys × All (IsInUse used) keys

-- a class that is in use stays so
still_used : (used : List Bool) (class : ℕ) → class < length used → (s : Spot) → IsInUse used s → IsInUse (slice_set used class true) s
still_used used class within s is =
    ⊎_elim (λ (e : s.class ≡ class). subst (λ k. slice_index_or (slice_set used class true) k false ≡ true) (sym e) (get_or-set_same used class true false within))
    (λ (ne : s.class ≡ class → ⊥). get_or-set_other used class s.class true false ne ∙ is)
    (cases_eq s.class class)

module _ (keys : List Spot) (used : List Bool) (kept : AreKept keys used) (l : Listener) (s : Spot) (spot : s ≡ spot_of l) where
  pub kept_with : (new : List Spot) → new ≡ insert_key compared keys s → IsRectangle (area_of s) → s.class < length used → AreKept new (slice_set used s.class true)
  kept_with new is valid within =
      let placed : IsPlaced s = record { valid = valid; place = spot ∙ ap (λ (t : Spot). spot_of (listener_of t)) (sym spot) } in
      subst (λ ks. AreKept ks (slice_set used s.class true)) (sym is) (
        All-insert_key compared s IsPlaced keys kept.0 placed,
        All-insert_key compared s (IsInUse (slice_set used s.class true)) keys (All-weaker (IsInUse used) (IsInUse (slice_set used s.class true)) (still_used used s.class within) keys kept.1) (get_or-set_same used s.class true false within),
      )

  pub kept_without : (new : List Spot) → new ≡ remove_key (λ t. is_eq (compared s t)) keys → AreKept new used
  kept_without new is =
      subst (λ ks. AreKept ks used) (sym is)
      (All-remove_key (λ t. is_eq (compared s t)) IsPlaced keys kept.0, All-remove_key (λ t. is_eq (compared s t)) (IsInUse used) keys kept.1)

  module _ (new : List Spot) (still : All IsPlaced new) (x : Listener) where
    pub held_with : list_any (λ t. is_eq (compared (spot_of x) t)) new ≡ cond (is_eq (compared s (spot_of x))) true (list_any (λ t. is_eq (compared (spot_of x) t)) keys)
        → holds (map listener_of new) x ≡ (holds (map listener_of keys) x || is_same x l)
    held_with step =
        held new still x ∙ step ∙ ap (λ (t : Spot). cond (is_eq (compared t (spot_of x))) true (list_any (λ t. is_eq (compared (spot_of x) t)) keys)) spot
        ∙ ap (λ b. cond b true (list_any (λ t. is_eq (compared (spot_of x) t)) keys)) (same_one x l)
        ∙ put_in (is_same x l) (list_any (λ t. is_eq (compared (spot_of x) t)) keys)
        ∙ ap (λ b. b || is_same x l) (sym (held keys kept.0 x))

    pub held_without : list_any (λ t. is_eq (compared (spot_of x) t)) new ≡ cond (is_eq (compared s (spot_of x))) false (list_any (λ t. is_eq (compared (spot_of x) t)) keys)
        → holds (map listener_of new) x ≡ (holds (map listener_of keys) x && not (is_same x l))
    held_without step =
        held new still x ∙ step ∙ ap (λ (t : Spot). cond (is_eq (compared t (spot_of x))) false (list_any (λ t. is_eq (compared (spot_of x) t)) keys)) spot
        ∙ ap (λ b. cond b false (list_any (λ t. is_eq (compared (spot_of x) t)) keys)) (same_one x l)
        ∙ taken_out (is_same x l) (list_any (λ t. is_eq (compared (spot_of x) t)) keys)
        ∙ ap (λ b. b && not (is_same x l)) (sym (held keys kept.0 x))

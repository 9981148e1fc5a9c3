-- Entries whose values are changed one by one: their keys stay, and so does their order.
use Rattle.std.proofs.Common.{◌≡◌, true, false, cond, List, [], ◌∷◌, map, refl, ap}
use Rattle.std.specs.Ordering.{match_ordering}
use Rattle.std.specs.declared.cmp.Ordering.{Ordering}
use Rattle.std.specs.declared.cmp.Ordering.TheVariants.{Less, Equal, Greater}
use Rattle.std.specs.BTreeMap.{insert_entry, is_at}
use Rattle.std.specs.Map.{remove_entry}

-- the entries with their values changed
abbrev pub valued : {K X Y : Type 0} → (X → Y) → List (K × X) → List (K × Y)
valued f es = map (λ e. (e.0, f e.1)) es

module _ {K X Y : Type 0} (R : K → K → Ordering) (f : X → Y) where
  pub valued-insert : (k : K) (v : X) (es : List (K × X)) → valued f (insert_entry R es k v) ≡ insert_entry R (valued f es) k (f v)
  valued-insert k v [] = refl
  valued-insert k v (e ∷ es) =
      elim (R k e.0) as (λ r. valued f (match_ordering r ((k, v) ∷ e ∷ es) ((e.0, v) ∷ es) (e ∷ insert_entry R es k v)) ≡ match_ordering r ((k, f v) ∷ valued f (e ∷ es)) ((e.0, f v) ∷ valued f es) ((e.0, f e.1) ∷ insert_entry R (valued f es) k (f v))) [
        | Less ↦ refl
        | Equal ↦ refl
        | Greater ↦ ap (λ rest. (e.0, f e.1) ∷ rest) (valued-insert k v es)
      ]

  pub valued-remove : (k : K) (es : List (K × X)) → valued f (remove_entry (is_at (R k)) es) ≡ remove_entry (is_at (R k)) (valued f es)
  valued-remove k [] = refl
  valued-remove k (e ∷ es) =
      elim (is_at (R k) e.0) as (λ b. valued f (cond b es (e ∷ remove_entry (is_at (R k)) es)) ≡ cond b (valued f es) ((e.0, f e.1) ∷ remove_entry (is_at (R k)) (valued f es))) [
        | true ↦ refl
        | false ↦ ap (λ rest. (e.0, f e.1) ∷ rest) (valued-remove k es)
      ]

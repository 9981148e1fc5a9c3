-- What is found among entries after one is put in or taken out, or the values of all change.
use Rattle.std.proofs.Common.{◌≡◌, true, false, cond, List, [], ◌∷◌, map, Some, None, refl, sym, ap, subst, ◌∙◌}
use Rattle.std.specs.Prelude.{option_map}
use Rattle.std.specs.Map.{remove_entry}
use Rattle.std.specs.BTreeMap.{insert_entry, is_at}
use Rattle.std.specs.Ordering.{eq_by_cmp, is_eq, match_ordering}
use Rattle.std.specs.FinMap.Entries.{find}
use Rattle.std.specs.declared.cmp.Ordering.{Ordering}
use Rattle.std.specs.declared.cmp.Ordering.TheVariants.{Less, Equal, Greater}
use Rattle.std.proofs.lemmas.Bool.{both_ways, cond-false, false_from_ne_true}

-- an order in which a key is tied with itself alone
pub record IsExact {K : Type 0} (R : K → K → Ordering) : Type 0 where
  pub itself : (k : K) → eq_by_cmp R k k ≡ true
  pub alone : (k l : K) → eq_by_cmp R k l ≡ true → k ≡ l

module _ {K : Type 0} (R : K → K → Ordering) (exact : IsExact R) (key q : K) (apart : eq_by_cmp R key q ≡ false) where
  -- another key than the one that is found is apart from it
  apart_from : (other : K) → key ≡ other → eq_by_cmp R q other ≡ false
  apart_from other is =
      false_from_ne_true _ (λ same. both_ways (eq_by_cmp R key q) apart (subst (λ k. eq_by_cmp R key k ≡ true) (sym (exact.alone q other same ∙ sym is)) (exact.itself key)))

  pub find-insert_entry : {X : Type 0} (es : List (K × X)) (value : X) → find R q (insert_entry R es key value) ≡ find R q es
  find-insert_entry [] value = cond-false (eq_by_cmp R q key) (Some value) None (apart_from key refl)
  find-insert_entry (e ∷ es) value =
      elim (R key e.0) as (λ o. R key e.0 ≡ o → find R q (match_ordering o ((key, value) ∷ e ∷ es) ((e.0, value) ∷ es) (e ∷ insert_entry R es key value)) ≡ find R q (e ∷ es)) [
        | Less ↦ λ below. cond-false (eq_by_cmp R q key) (Some value) (find R q (e ∷ es)) (apart_from key refl)
        | Equal ↦ λ same.
            let other = apart_from e.0 (exact.alone key e.0 (ap is_eq same)) in
            cond-false (eq_by_cmp R q e.0) (Some value) (find R q es) other ∙ sym (cond-false (eq_by_cmp R q e.0) (Some e.1) (find R q es) other)
        | Greater ↦ λ above. ap (cond (eq_by_cmp R q e.0) (Some e.1)) (find-insert_entry es value)
      ] refl

  pub find-remove_entry : {X : Type 0} (es : List (K × X)) → find R q (remove_entry (is_at (R key)) es) ≡ find R q es
  find-remove_entry [] = refl
  find-remove_entry (e ∷ es) =
      elim (is_at (R key) e.0) as (λ b. is_at (R key) e.0 ≡ b → find R q (cond b es (e ∷ remove_entry (is_at (R key)) es)) ≡ find R q (e ∷ es)) [
        | true ↦ λ same. sym (cond-false (eq_by_cmp R q e.0) (Some e.1) (find R q es) (apart_from e.0 (exact.alone key e.0 same)))
        | false ↦ λ other. ap (cond (eq_by_cmp R q e.0) (Some e.1)) (find-remove_entry es)
      ] refl

-- values that are changed are found changed
pub find-valued : {K X Y : Type 0} (R : K → K → Ordering) (f : X → Y) (k : K) (es : List (K × X)) → find R k (map (λ e. (e.0, f e.1)) es) ≡ option_map f (find R k es)
find-valued R f k [] = refl
find-valued R f k (e ∷ es) =
    elim (is_eq (R k e.0)) as (λ b. cond b (Some (f e.1)) (find R k (map (λ e. (e.0, f e.1)) es)) ≡ option_map f (cond b (Some e.1) (find R k es))) [
      | true ↦ refl
      | false ↦ find-valued R f k es
    ]

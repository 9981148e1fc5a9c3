-- Entries in the order of their keys: they stay so where one comes, changes or goes, and stay what they can be.
use Rattle.std.proofs.Common.{◌≡◌, ◌≤◌, ◌+◌, Bool, true, false, ◌&&◌, cond, T, suc, List, [], ◌∷◌, length, map, refl, sym, ap, subst, ◌∙◌, arith}
use Rattle.std.specs.List.{list_all}
use Rattle.std.specs.Ordering.{is_lt, match_ordering}
use Rattle.std.specs.declared.cmp.Ordering.{Ordering}
use Rattle.std.specs.declared.cmp.Ordering.TheVariants.{Less, Equal, Greater}
use Rattle.std.specs.FinMap.Entries.{below_all, by_order, is_sorted, is_sorted-put, put}
use Rattle.std.specs.BTreeMap.{insert_entry}
use Rattle.std.specs.Map.{remove_entry}
use Rattle.std.specs.Cmp.{IsTotalOrder}
use Rattle.calc_model.proofs.Areas.{both_true}

to_test : (b : Bool) → T b → b ≡ true
to_test true h = refl
to_test false h = absurd h

of_test : (b : Bool) → b ≡ true → T b
of_test b h = subst T (sym h) tt

pub both_so : (a b : Bool) → a ≡ true → b ≡ true → (a && b) ≡ true
both_so a b h k = ap (λ x. x && b) h ∙ k

same_choice : {A : Type 0} (o : Ordering) (a b c d : A) → c ≡ d → match_ordering o a b c ≡ by_order o a b d
same_choice Less a b c d h = refl
same_choice Equal a b c d h = refl
same_choice Greater a b c d h = h

module _ {K X : Type 0} (R : K → K → Ordering) where
  -- an entry that is inserted is put in its place
  insert_is_put : (key : K) (value : X) (es : List (K × X)) → insert_entry R es key value ≡ put R key value es
  insert_is_put key value [] = refl
  insert_is_put key value (e ∷ es) = same_choice (R key e.0) _ _ _ _ (ap (λ xs. e ∷ xs) (insert_is_put key value es))

  pub sorted-inserted : IsTotalOrder R → (key : K) (value : X) (es : List (K × X)) → is_sorted R es ≡ true → is_sorted R (insert_entry R es key value) ≡ true
  sorted-inserted total key value es h =
      ap (is_sorted R) (insert_is_put key value es) ∙ to_test _ (is_sorted-put R total key value es (of_test _ h))

  below-removed : (test : K → Bool) (x : K) (es : List (K × X)) → below_all R x es ≡ true → below_all R x (remove_entry test es) ≡ true
  below-removed test x [] h = refl
  below-removed test x (e ∷ es) h =
      let parts = both_true (is_lt (R x e.0)) (below_all R x es) h in
      elim (test e.0) as (λ b. below_all R x (cond b es (e ∷ remove_entry test es)) ≡ true) [
        | true ↦ parts.1
        | false ↦ both_so _ _ parts.0 (below-removed test x es parts.1)
      ]

  pub sorted-removed : (test : K → Bool) (es : List (K × X)) → is_sorted R es ≡ true → is_sorted R (remove_entry test es) ≡ true
  sorted-removed test [] h = refl
  sorted-removed test (e ∷ es) h =
      let parts = both_true (below_all R e.0 es) (is_sorted R es) h in
      elim (test e.0) as (λ b. is_sorted R (cond b es (e ∷ remove_entry test es)) ≡ true) [
        | true ↦ parts.1
        | false ↦ both_so _ _ (below-removed test e.0 es parts.0) (sorted-removed test es parts.1)
      ]

  -- a change of values leaves the keys
  below-mapped : {Y : Type 0} (f : X → Y) (x : K) (es : List (K × X)) → below_all R x (map (λ e. (e.0, f e.1)) es) ≡ below_all R x es
  below-mapped f x [] = refl
  below-mapped f x (e ∷ es) = ap (λ b. is_lt (R x e.0) && b) (below-mapped f x es)

  pub sorted-mapped : {Y : Type 0} (f : X → Y) (es : List (K × X)) → is_sorted R (map (λ e. (e.0, f e.1)) es) ≡ is_sorted R es
  sorted-mapped f [] = refl
  sorted-mapped f (e ∷ es) =
      ap (λ b. b && is_sorted R (map (λ e. (e.0, f e.1)) es)) (below-mapped f e.0 es)
      ∙ ap (λ b. below_all R e.0 es && b) (sorted-mapped f es)

  -- tests of a key and a value, that both pass
  module _ (of_key : K → Bool) (of_value : X → Bool) where
    pub all-inserted : (key : K) (value : X) (es : List (K × X)) → of_key key ≡ true → of_value value ≡ true → list_all (λ e. of_key e.0 && of_value e.1) es ≡ true → list_all (λ e. of_key e.0 && of_value e.1) (insert_entry R es key value) ≡ true
    all-inserted key value [] k v h = both_so _ _ (both_so _ _ k v) h
    all-inserted key value (e ∷ es) k v h =
        let parts = both_true (of_key e.0 && of_value e.1) (list_all (λ e. of_key e.0 && of_value e.1) es) h in
        elim (R key e.0) as (λ o. list_all (λ e. of_key e.0 && of_value e.1) (match_ordering o ((key, value) ∷ e ∷ es) ((e.0, value) ∷ es) (e ∷ insert_entry R es key value)) ≡ true) [
          | Less ↦ both_so _ _ (both_so _ _ k v) h
          | Equal ↦ both_so _ _ (both_so _ _ (both_true (of_key e.0) (of_value e.1) parts.0).0 v) parts.1
          | Greater ↦ both_so _ _ parts.0 (all-inserted key value es k v parts.1)
        ]

  pub length-inserted : (key : K) (value : X) (es : List (K × X)) → length (insert_entry R es key value) ≤ length es + 1
  length-inserted key value [] = omega arith
  length-inserted key value (e ∷ es) =
      let rest = length-inserted key value es in
      elim (R key e.0) as (λ o. length (match_ordering o ((key, value) ∷ e ∷ es) ((e.0, value) ∷ es) (e ∷ insert_entry R es key value)) ≤ suc (length es) + 1) [
        | Less ↦ omega arith
        | Equal ↦ omega arith
        | Greater ↦ omega arith
      ]

module _ {K X : Type 0} where
  pub all-removed : (test : K → Bool) (p : K × X → Bool) (es : List (K × X)) → list_all p es ≡ true → list_all p (remove_entry test es) ≡ true
  all-removed test p [] h = refl
  all-removed test p (e ∷ es) h =
      let parts = both_true (p e) (list_all p es) h in
      elim (test e.0) as (λ b. list_all p (cond b es (e ∷ remove_entry test es)) ≡ true) [
        | true ↦ parts.1
        | false ↦ both_so _ _ parts.0 (all-removed test p es parts.1)
      ]

  pub length-removed : (test : K → Bool) (es : List (K × X)) → length (remove_entry test es) ≤ length es
  length-removed test [] = omega arith
  length-removed test (e ∷ es) =
      let rest = length-removed test es in
      elim (test e.0) as (λ b. length (cond b es (e ∷ remove_entry test es)) ≤ suc (length es)) [
        | true ↦ omega arith
        | false ↦ omega arith
      ]

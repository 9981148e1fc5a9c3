-- Entries in the order of their keys: some of them, at other keys in the same order, and with several more.
use Rattle.std.proofs.Common.{◌≡◌, ◌≤◌, Bool, true, false, ◌&&◌, cond, T, suc, List, [], ◌∷◌, length, map, fold, refl, sym, subst, arith}
use Rattle.std.specs.List.{filter, list_all}
use Rattle.std.specs.Cmp.{IsTotalOrder}
use Rattle.std.specs.Ordering.{is_lt}
use Rattle.std.specs.declared.cmp.Ordering.{Ordering}
use Rattle.std.specs.FinMap.Entries.{below_all, is_sorted, is_sorted-where_key}
use Rattle.std.specs.BTreeMap.{insert_entry}
use Rattle.calc_model.proofs.Areas.{both_true}
use Rattle.calc_model.proofs.EntriesKept.{all-inserted, both_so, sorted-inserted}

to_test : (b : Bool) → T b → b ≡ true
to_test true h = refl
to_test false h = absurd h

of_test : (b : Bool) → b ≡ true → T b
of_test b h = subst T (sym h) tt

module _ {X : Type 0} where
  pub all-filter : (passes test : X → Bool) (xs : List X) → list_all passes xs ≡ true → list_all passes (filter test xs) ≡ true
  all-filter passes test [] h = refl
  all-filter passes test (x ∷ xs) h =
      let parts = both_true (passes x) (list_all passes xs) h in
      elim (test x) as (λ b. list_all passes (cond b (x ∷ filter test xs) (filter test xs)) ≡ true) [
        | true ↦ both_so _ _ parts.0 (all-filter passes test xs parts.1)
        | false ↦ all-filter passes test xs parts.1
      ]

  -- what a filter leaves passes its test
  pub all-filtered : (test : X → Bool) (xs : List X) → list_all test (filter test xs) ≡ true
  all-filtered test [] = refl
  all-filtered test (x ∷ xs) =
      elim (test x) as (λ b. test x ≡ b → list_all test (cond b (x ∷ filter test xs) (filter test xs)) ≡ true) [
        | true ↦ λ is. both_so _ _ is (all-filtered test xs)
        | false ↦ λ _. all-filtered test xs
      ] refl

  pub length-filter : (test : X → Bool) (xs : List X) → length (filter test xs) ≤ length xs
  length-filter test [] = omega arith
  length-filter test (x ∷ xs) =
      let rest = length-filter test xs in
      elim (test x) as (λ b. length (cond b (x ∷ filter test xs) (filter test xs)) ≤ suc (length xs)) [
        | true ↦ omega arith
        | false ↦ omega arith
      ]

  -- where items pass two tests, what becomes of them passes a third
  pub all-map : {Y : Type 0} (first second : X → Bool) (third : Y → Bool) (f : X → Y) → ((x : X) → first x ≡ true → second x ≡ true → third (f x) ≡ true) → (xs : List X) → list_all first xs ≡ true → list_all second xs ≡ true → list_all third (map f xs) ≡ true
  all-map first second third f goes [] h k = refl
  all-map first second third f goes (x ∷ xs) h k =
      let one = both_true (first x) (list_all first xs) h in
      let two = both_true (second x) (list_all second xs) k in
      both_so _ _ (goes x one.0 two.0) (all-map first second third f goes xs one.1 two.1)

module _ {K X : Type 0} (R : K → K → Ordering) where
  pub sorted-filter : (test : K → Bool) (es : List (K × X)) → is_sorted R es ≡ true → is_sorted R (filter (λ e. test e.0) es) ≡ true
  sorted-filter test es h = to_test _ (is_sorted-where_key R test es (of_test _ h))

  -- entries at other keys in the same order
  module _ {Y : Type 0} (stays : K → Bool) (goes : K → K) (change : K × X → Y) (rises : (k l : K) → stays k ≡ true → stays l ≡ true → is_lt (R k l) ≡ true → is_lt (R (goes k) (goes l)) ≡ true) where
    below-moved : (k : K) (es : List (K × X)) → stays k ≡ true → list_all (λ e. stays e.0) es ≡ true → below_all R k es ≡ true → below_all R (goes k) (map (λ e. (goes e.0, change e)) es) ≡ true
    below-moved k [] is all h = refl
    below-moved k (e ∷ es) is all h =
        let parts = both_true (is_lt (R k e.0)) (below_all R k es) h in
        let stay = both_true (stays e.0) (list_all (λ e. stays e.0) es) all in
        both_so _ _ (rises k e.0 is stay.0 parts.0) (below-moved k es is stay.1 parts.1)

    pub sorted-moved : (es : List (K × X)) → list_all (λ e. stays e.0) es ≡ true → is_sorted R es ≡ true → is_sorted R (map (λ e. (goes e.0, change e)) es) ≡ true
    sorted-moved [] all h = refl
    sorted-moved (e ∷ es) all h =
        let parts = both_true (below_all R e.0 es) (is_sorted R es) h in
        let stay = both_true (stays e.0) (list_all (λ e. stays e.0) es) all in
        both_so _ _ (below-moved e.0 es stay.0 stay.1 parts.0) (sorted-moved es stay.1 parts.1)

  -- with some more, one after the other
  pub sorted-inserts : IsTotalOrder R → (news es : List (K × X)) → is_sorted R es ≡ true → is_sorted R (fold (λ held e. insert_entry R held e.0 e.1) es news) ≡ true
  sorted-inserts total [] es h = h
  sorted-inserts total (e ∷ news) es h = sorted-inserts total news (insert_entry R es e.0 e.1) (sorted-inserted R total e.0 e.1 es h)

  pub all-inserts : (of_key : K → Bool) (of_value : X → Bool) (news es : List (K × X)) → list_all (λ e. of_key e.0 && of_value e.1) news ≡ true → list_all (λ e. of_key e.0 && of_value e.1) es ≡ true → list_all (λ e. of_key e.0 && of_value e.1) (fold (λ held e. insert_entry R held e.0 e.1) es news) ≡ true
  all-inserts of_key of_value [] es n h = h
  all-inserts of_key of_value (e ∷ news) es n h =
      let parts = both_true (of_key e.0 && of_value e.1) (list_all (λ e. of_key e.0 && of_value e.1) news) n in
      let ones = both_true (of_key e.0) (of_value e.1) parts.0 in
      all-inserts of_key of_value news (insert_entry R es e.0 e.1) parts.1 (all-inserted R of_key of_value e.0 e.1 es ones.0 ones.1 h)

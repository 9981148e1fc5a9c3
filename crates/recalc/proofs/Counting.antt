-- How many formulas are stale: as many as are listed.
use Rattle.std.proofs.Common.{◌≡◌, ◌<◌, ◌≤◌, ℕ, suc, Bool, T, true, false, ◌||◌, List, [], ◌∷◌, length, map, get_or, Option, Some, None, cond, unwrap_or, refl, sym, ap, subst, ◌∙◌, arith}
use Rattle.std.specs.List.{AllPairs, filter}
use Rattle.std.specs.Ordering.{eq_by_cmp, is_eq, is_lt}
use Rattle.std.specs.FinMap.Entries.{below_all, find, find-where_key, is_sorted, is_sorted-where_key, same_entries, where_key}
use Rattle.std.proofs.lemmas.Bool.{and_from, false≢true}
use Rattle.std.proofs.lemmas.List.{length-map}
use Rattle.calc_addr.specs.Places.{IsBefore, Place, place_cmp}
use Rattle.calc_model.specs.declared.content.Content.{Content}
use Rattle.calc_model.specs.declared.content.Content.TheVariants.{Empty}
use Rattle.calc_model.specs.Books.{Book, IsBook, content_at, is_formula}
use Rattle.calc_model.specs.Stale.{count_in, is_formula_cell}
use Rattle.calc_model.specs.Touched.{CellSet}
use Rattle.calc_model.proofs.Places.{exact_places, places_total, same_places}
use Rattle.dirty_spread.specs.Waves.{has}

-- a test that passes, as the entries of maps say it
is_so : (b : Bool) → b ≡ true → T b
is_so b h = subst T (sym h) tt

module _ (book : Book) where
  -- cells with what they hold
  abbrev held : List Place → List (Place × Content)
  held = map (λ q. (q, content_at book q))

  below : (x : Place) (xs : List Place) → ((k : ℕ) (d : Place) → k < length xs → IsBefore x (get_or xs k d)) → below_all place_cmp x (held xs) ≡ true
  below x [] before = refl
  below x (y ∷ ys) before =
      and_from (is_lt (place_cmp x y)) (below_all place_cmp x (held ys)) (ap is_lt (before 0 y (omega arith)))
      (below x ys (λ k d within. before (suc k) d (omega (arith, within))))

  sorted : (xs : List Place) → AllPairs IsBefore xs → is_sorted place_cmp (held xs) ≡ true
  sorted [] pairs = refl
  sorted (x ∷ xs) pairs =
      and_from (below_all place_cmp x (held xs)) (is_sorted place_cmp (held xs))
      (below x xs (λ k d within. pairs 0 (suc k) d (omega arith) (omega (arith, within))))
      (sorted xs (λ i j d before within. pairs (suc i) (suc j) d (omega (arith, before)) (omega (arith, within))))

  found : (xs : List Place) (q : Place) → find place_cmp q (held xs) ≡ cond (has xs q) (Some (content_at book q)) None
  found [] q = refl
  found (x ∷ xs) q =
      elim (eq_by_cmp place_cmp q x) as (λ b. eq_by_cmp place_cmp q x ≡ b → cond b (Some (content_at book x)) (find place_cmp q (held xs)) ≡ cond (b || has xs q) (Some (content_at book q)) None) [
        | true ↦ λ tied. ap (λ p. Some (content_at book p)) (sym (same_places q x tied))
        | false ↦ λ _. found xs q
      ] refl

  module _ (test : CellSet) (formulas : (q : Place) → test q ≡ true → is_formula_cell book q ≡ true) where
    something : (o : Option Content) → is_formula (unwrap_or o Empty) ≡ true → o ≡ Some (unwrap_or o Empty)
    something None h = absurd (false≢true h)
    something (Some x) h = refl

    entry : (q : Place) → find place_cmp q (where_key place_cmp test book.cells) ≡ cond (test q) (Some (content_at book q)) None
    unfolding content_at
    entry q =
        find-where_key place_cmp test q (λ x tied. ap test (sym (same_places q x (ap is_eq tied)))) book.cells
        ∙ elim (test q) as (λ b. test q ≡ b → cond b (find place_cmp q book.cells) None ≡ cond b (Some (unwrap_or (find place_cmp q book.cells) Empty)) None) [
          | true ↦ λ passes. something (find place_cmp q book.cells) (formulas q passes)
          | false ↦ λ _. refl
        ] refl

    -- a list of the cells of a book that pass has as many as are counted
    pub counted : (cells : List Place) → IsBook book → AllPairs IsBefore cells → ((q : Place) → has cells q ≡ test q) → length cells ≡ count_in book test
    counted cells is pairs exact =
        sym (length-map cells (λ q. (q, content_at book q)))
        ∙ ap length (same_entries place_cmp places_total exact_places (held cells) (where_key place_cmp test book.cells) (is_so _ (sorted cells pairs)) (is_sorted-where_key place_cmp test book.cells (is_so _ is.cells_in_order)) (λ q. found cells q ∙ ap (λ b. cond b (Some (content_at book q)) None) (exact q) ∙ sym (entry q)))

filtered_within : {X : Type 0} (test : X → Bool) (xs : List X) → length (filter test xs) ≤ length xs
filtered_within test [] = omega arith
filtered_within test (x ∷ xs) = elim (test x) as (λ b. length (cond b (x ∷ filter test xs) (filter test xs)) ≤ suc (length xs)) [
  | true ↦ omega (arith, filtered_within test xs)
  | false ↦ omega (arith, filtered_within test xs)
]

-- a list of formulas has no more than a book has cells
pub few_listed : (book : Book) → IsBook book → (cells : List Place) → AllPairs IsBefore cells → ((q : Place) → has cells q ≡ true → is_formula_cell book q ≡ true) → length cells ≤ 4194304
few_listed book is cells pairs formulas =
    omega (arith, counted book (has cells) formulas cells is pairs (λ q. refl), filtered_within (λ entry. has cells entry.0) book.cells, is.cells_in_limit)

-- a book has no more formulas than cells
pub few_formulas : (book : Book) → IsBook book → (cells : List Place) → AllPairs IsBefore cells → ((q : Place) → has cells q ≡ is_formula_cell book q) → length cells ≤ 4194304
few_formulas book is cells pairs exact =
    omega (arith, counted book (is_formula_cell book) (λ q h. h) cells is pairs exact, filtered_within (λ entry. is_formula_cell book entry.0) book.cells, is.cells_in_limit)

-- Worked examples of small books of one row: which of their formulas are stale after loading, after an edit and after
-- a recalculation.
use Rattle.std.proofs.Common.{◌≡◌, ◌∙◌, ◌||◌, ℕ, suc, Bool, true, false, cond, List, [], ◌∷◌, ap, length, refl}
use Rattle.std.specs.Prelude.{Ok}
use Rattle.std.specs.List.{filter, list_any}
use Rattle.calc_addr.specs.Places.{Place, places, single}
use Rattle.calc_model.specs.declared.content.Content.{Content}
use Rattle.calc_model.specs.declared.content.Content.TheVariants.{Constant}
use Rattle.calc_model.specs.declared.edit.Edit.{Edit}
use Rattle.calc_model.specs.declared.edit.Edit.TheVariants.{Set, Clear}
use Rattle.calc_model.specs.Books.{Book, area_named, content_at, formula_count}
use Rattle.calc_model.specs.Reads.{content_areas}
use Rattle.calc_model.specs.Touched.{CellSet, touched}
use Rattle.calc_model.specs.Stale.{any_cell, count_in, is_formula_cell, reaches, reaches_in, stale_after}
use Rattle.calc_model.specs.Step.{step}
use Rattle.calc_model.proofs.ShownExamples.{areas_of_sum, at, book_of, circle_of_two, one_place, row_of_sums, row_with_a_gap, sum, whole}

without_falses : (b c : Bool) → ((b || false) || ((c || false) || false)) ≡ (b || c)
without_falses true c = refl
without_falses false true = refl
without_falses false false = refl

module _ (book : Book) (col left right : ℕ) (holds : content_at book (at col) ≡ sum left right) (cells : CellSet) where
  -- a sum reaches one of some cells where it is one, or one of the two cells that it reads reaches one
  sum_reaches : (k : ℕ) → reaches_in book cells (suc k) (at col) ≡ (cells (at col) || (reaches_in book cells k (at left) || reaches_in book cells k (at right)))
  sum_reaches k =
      let reached = reaches_in book cells k in
      ap (λ content. cells (at col) || any_cell reached (content_areas (at col) (area_named book) content)) holds
      ∙ ap (λ areas. cells (at col) || any_cell reached areas) (areas_of_sum (at col) (area_named book) (at left) (at right))
      ∙ ap (λ front. cells (at col) || (list_any reached front || (list_any reached (places (single (at right))) || false))) (one_place left)
      ∙ ap (λ back. cells (at col) || ((reached (at left) || false) || (list_any reached back || false))) (one_place right)
      ∙ ap (λ b. cells (at col) || b) (without_falses (reached (at left)) (reached (at right)))

-- a cell that is among some cells counts once
one_more : (cells : CellSet) (entry : Place × Content) (entries : List (Place × Content)) → cells entry.0 ≡ true → length (filter (λ other. cells other.0) (entry ∷ entries)) ≡ suc (length (filter (λ other. cells other.0) entries))
one_more cells entry entries is =
    let others : List (Place × Content) = filter (λ other. cells other.0) entries in
    ap (λ b. length (cond b (entry ∷ others) others)) is

-- nothing is stale
abbrev none : CellSet
none q = false

-- the cell of that column is set to a whole number
set_to : ℕ → ℕ → Edit
set_to col n = Set (at col) (Constant (whole n))

-- the cells of these columns are cleared
clear_to : ℕ → ℕ → Edit
clear_to first last = Clear (record { sheet = 0; first_col = first; last_col = last; first_row = 1; last_row = 1 })

-- =[.B1]+[.C1],=[.A1]+[.C1],1
all_formulas_are_stale_after_loading : count_in circle_of_two (is_formula_cell circle_of_two) ≡ 2
unfolding content_at
all_formulas_are_stale_after_loading = refl

no_formula_is_stale_after_a_recalculation : count_in circle_of_two none ≡ 0
no_formula_is_stale_after_a_recalculation = refl

-- 5,=[.A1]+[.C1],1
abbrev circle_broken : Book
circle_broken = book_of ((at 1, Constant (whole 5)) ∷ (at 2, sum 1 3) ∷ (at 3, Constant (whole 1)) ∷ [])

the_first_cell_is_set : step circle_of_two (set_to 1 5) ≡ Ok circle_broken
unfolding set_to
the_first_cell_is_set = refl

the_reader_of_a_cell_that_is_set_is_stale : stale_after circle_of_two (set_to 1 5) circle_broken none (at 2) ≡ true
unfolding content_at formula_count reaches set_to
the_reader_of_a_cell_that_is_set_is_stale = sum_reaches circle_broken 2 1 3 refl (touched circle_of_two (set_to 1 5) circle_broken) 1

a_cell_that_holds_no_formula_is_never_stale : stale_after circle_of_two (set_to 1 5) circle_broken none (at 1) ≡ false
unfolding content_at
a_cell_that_holds_no_formula_is_never_stale = refl

one_formula_is_stale_after_the_set : count_in circle_broken (stale_after circle_of_two (set_to 1 5) circle_broken none) ≡ 1
unfolding content_at
one_formula_is_stale_after_the_set = one_more (stale_after circle_of_two (set_to 1 5) circle_broken none) (at 2, sum 1 3) ((at 3, Constant (whole 1)) ∷ []) the_reader_of_a_cell_that_is_set_is_stale

-- the same edit where both formulas were stale before it
a_formula_that_was_stale_stays_so : stale_after circle_of_two (set_to 1 5) circle_broken (is_formula_cell circle_of_two) (at 2) ≡ true
unfolding content_at set_to
a_formula_that_was_stale_stays_so = refl

a_formula_that_is_overwritten_is_no_longer_stale : stale_after circle_of_two (set_to 1 5) circle_broken (is_formula_cell circle_of_two) (at 1) ≡ false
unfolding content_at
a_formula_that_is_overwritten_is_no_longer_stale = refl

-- 1,2,=[.A1]+[.B1],=[.C1]+[.C1]
a_set_that_changes_nothing_makes_readers_stale_too : stale_after row_of_sums (set_to 2 2) row_of_sums none (at 3) ≡ true
unfolding content_at formula_count reaches set_to
a_set_that_changes_nothing_makes_readers_stale_too = sum_reaches row_of_sums 3 1 2 refl (touched row_of_sums (set_to 2 2) row_of_sums) 2

a_formula_two_steps_away_is_stale : stale_after row_of_sums (set_to 2 2) row_of_sums none (at 4) ≡ true
unfolding content_at formula_count reaches set_to
a_formula_two_steps_away_is_stale =
    let cells = touched row_of_sums (set_to 2 2) row_of_sums in
    sum_reaches row_of_sums 4 3 3 refl cells 2
    ∙ ap (λ b. b || b) (sum_reaches row_of_sums 3 1 2 refl cells 1)

-- the same with 2 in E1
abbrev row_and_one_more : Book
row_and_one_more = book_of ((at 1, Constant (whole 1)) ∷ (at 2, Constant (whole 2)) ∷ (at 3, sum 1 2) ∷ (at 4, sum 3 3) ∷ (at 5, Constant (whole 2)) ∷ [])

a_cell_is_added : step row_of_sums (set_to 5 2) ≡ Ok row_and_one_more
unfolding set_to
a_cell_is_added = refl

a_set_that_no_formula_reaches_makes_none_stale : stale_after row_of_sums (set_to 5 2) row_and_one_more none (at 4) ≡ false
unfolding content_at formula_count reaches set_to
a_set_that_no_formula_reaches_makes_none_stale =
    let cells = touched row_of_sums (set_to 5 2) row_and_one_more in
    sum_reaches row_and_one_more 4 3 3 refl cells 2
    ∙ ap (λ b. b || b) (sum_reaches row_and_one_more 3 1 2 refl cells 1)

-- 5,7,=[.A1]+[.B1],=[.B1]+[.B1]
abbrev gap_filled : Book
gap_filled = book_of ((at 1, Constant (whole 5)) ∷ (at 2, Constant (whole 7)) ∷ (at 3, sum 1 2) ∷ (at 4, sum 2 2) ∷ [])

the_gap_is_filled : step row_with_a_gap (set_to 2 7) ≡ Ok gap_filled
unfolding set_to
the_gap_is_filled = refl

the_first_reader_of_the_gap_is_stale : stale_after row_with_a_gap (set_to 2 7) gap_filled none (at 3) ≡ true
unfolding content_at formula_count reaches set_to
the_first_reader_of_the_gap_is_stale = sum_reaches gap_filled 3 1 2 refl (touched row_with_a_gap (set_to 2 7) gap_filled) 2

the_second_reader_of_the_gap_is_stale : stale_after row_with_a_gap (set_to 2 7) gap_filled none (at 4) ≡ true
unfolding content_at formula_count reaches set_to
the_second_reader_of_the_gap_is_stale = sum_reaches gap_filled 4 2 2 refl (touched row_with_a_gap (set_to 2 7) gap_filled) 2

both_readers_of_the_gap_are_stale : count_in gap_filled (stale_after row_with_a_gap (set_to 2 7) gap_filled none) ≡ 2
unfolding content_at
both_readers_of_the_gap_are_stale =
    let stale = stale_after row_with_a_gap (set_to 2 7) gap_filled none in
    one_more stale (at 3, sum 1 2) ((at 4, sum 2 2) ∷ []) the_first_reader_of_the_gap_is_stale
    ∙ ap suc (one_more stale (at 4, sum 2 2) [] the_second_reader_of_the_gap_is_stale)

the_gap_is_cleared_again : step gap_filled (clear_to 2 2) ≡ Ok row_with_a_gap
unfolding clear_to
the_gap_is_cleared_again = refl

the_reader_of_a_cleared_cell_is_stale : stale_after gap_filled (clear_to 2 2) row_with_a_gap none (at 4) ≡ true
unfolding content_at formula_count reaches clear_to
the_reader_of_a_cleared_cell_is_stale = sum_reaches row_with_a_gap 4 2 2 refl (touched gap_filled (clear_to 2 2) row_with_a_gap) 2

-- 5,=[.A1]+[.A1],=[.A1]+[.B1],=[.B1]+[.B1]
abbrev gap_summed : Book
gap_summed = book_of ((at 1, Constant (whole 5)) ∷ (at 2, sum 1 1) ∷ (at 3, sum 1 2) ∷ (at 4, sum 2 2) ∷ [])

the_gap_holds_a_sum : step row_with_a_gap (Set (at 2) (sum 1 1)) ≡ Ok gap_summed
the_gap_holds_a_sum = refl

a_formula_that_is_set_is_stale : stale_after row_with_a_gap (Set (at 2) (sum 1 1)) gap_summed none (at 2) ≡ true
unfolding content_at formula_count reaches
a_formula_that_is_set_is_stale = sum_reaches gap_summed 2 1 1 refl (touched row_with_a_gap (Set (at 2) (sum 1 1)) gap_summed) 3

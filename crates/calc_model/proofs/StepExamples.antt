-- Worked examples of edits: cells of a small book that are set or cleared, and a book at the limit of its cells.
use Rattle.std.proofs.Common.{◌≡◌, ◌*◌, ◌^◌, ℕ, pos, List, [], ◌∷◌, length, ap, nat_le, refl}
use Rattle.std.specs.Prelude.{Ok, Err, if◌then◌else◌}
use Rattle.calc_addr.specs.Places.{Place, Rectangle}
use Rattle.calc_model.specs.declared.value.Value.TheVariants.{Number}
use Rattle.calc_model.specs.declared.content.Content.{Content}
use Rattle.calc_model.specs.declared.content.Content.TheVariants.{Empty, Constant}
use Rattle.calc_model.specs.declared.edit.Edit.TheVariants.{Set, Clear}
use Rattle.calc_model.specs.Books.{Book}
use Rattle.calc_model.specs.declared.edit.EditCause.TheVariants.{CellsFull}
use Rattle.calc_model.specs.declared.limits.TheConstants.{MOST_CELLS}
use Rattle.calc_model.specs.Step.{if_cells_fit, step}

abbrev pub at : ℕ → ℕ → Place
at col row = record { sheet = 0; col = col; row = row }

abbrev pub whole : ℕ → Content
whole n = Constant (Number (pos (n * 10 ^ 9)))

abbrev pub book_of : List (Place × Content) → Book
book_of cells = record { cells = cells; names = [] }

-- the cells of some columns and rows of a sheet
abbrev pub area : ℕ → ℕ → ℕ → ℕ → ℕ → Rectangle
area sheet first_col last_col first_row last_row =
    record { sheet = sheet; first_col = first_col; last_col = last_col; first_row = first_row; last_row = last_row }

-- A1 is 1, B1 is 2, B3 is 3
abbrev pub three_cells : Book
three_cells = book_of ((at 1 1, whole 1) ∷ (at 2 1, whole 2) ∷ (at 2 3, whole 3) ∷ [])

a_set_of_a_new_cell_adds_it_at_its_place : step three_cells (Set (at 2 2) (whole 9)) ≡ Ok (book_of ((at 1 1, whole 1) ∷ (at 2 1, whole 2) ∷ (at 2 2, whole 9) ∷ (at 2 3, whole 3) ∷ []))
a_set_of_a_new_cell_adds_it_at_its_place = refl

a_set_of_a_cell_of_an_earlier_column_comes_first : step three_cells (Set (at 1 9) (whole 9)) ≡ Ok (book_of ((at 1 1, whole 1) ∷ (at 1 9, whole 9) ∷ (at 2 1, whole 2) ∷ (at 2 3, whole 3) ∷ []))
a_set_of_a_cell_of_an_earlier_column_comes_first = refl

a_set_of_a_held_cell_overwrites_it : step three_cells (Set (at 2 1) (whole 9)) ≡ Ok (book_of ((at 1 1, whole 1) ∷ (at 2 1, whole 9) ∷ (at 2 3, whole 3) ∷ []))
a_set_of_a_held_cell_overwrites_it = refl

a_set_to_nothing_removes_the_cell : step three_cells (Set (at 2 1) Empty) ≡ Ok (book_of ((at 1 1, whole 1) ∷ (at 2 3, whole 3) ∷ []))
a_set_to_nothing_removes_the_cell = refl

a_set_of_an_empty_cell_to_nothing_changes_nothing : step three_cells (Set (at 3 1) Empty) ≡ Ok three_cells
a_set_of_an_empty_cell_to_nothing_changes_nothing = refl

a_clear_empties_the_cells_of_the_area : step three_cells (Clear (area 0 2 4 1 3)) ≡ Ok (book_of ((at 1 1, whole 1) ∷ []))
a_clear_empties_the_cells_of_the_area = refl

a_clear_leaves_the_cells_beside_the_area : step three_cells (Clear (area 0 1 2 1 2)) ≡ Ok (book_of ((at 2 3, whole 3) ∷ []))
a_clear_leaves_the_cells_beside_the_area = refl

a_clear_of_another_sheet_changes_nothing : step three_cells (Clear (area 1 1 1024 1 1048576)) ≡ Ok three_cells
a_clear_of_another_sheet_changes_nothing = refl

a_book_may_have_as_many_cells_as_the_limit : (book : Book) → length book.cells ≡ 4194304 → if_cells_fit book ≡ Ok book
a_book_may_have_as_many_cells_as_the_limit book full = ap (λ n. if nat_le n MOST_CELLS then Ok book else Err CellsFull) full

one_cell_more_than_the_limit_is_refused : (book : Book) → length book.cells ≡ 4194305 → if_cells_fit book ≡ Err CellsFull
one_cell_more_than_the_limit_is_refused book over = ap (λ n. if nat_le n MOST_CELLS then Ok book else Err CellsFull) over

-- The generated book. In each of so many rows of the first sheet stand a number, computed from a start and the row
-- alone; its double; the sum of the doubles down to that row; and from the eighth row on the sum of the last eight
-- numbers.
use Rattle.std.specs.Prelude.{ℕ, pos, ◌+◌, ◌-◌, ◌*◌, ◌%◌, ◌^◌, ◌==◌, false, codes, [], ◌∷◌, ◌++◌, map, if◌then◌else◌}
use Rattle.calc_addr.specs.Places.{from_to}
use Rattle.calc_addr.specs.References.{Reference}
use Rattle.calc_addr.specs.declared.reference.Marks.{Marks}
use Rattle.calc_addr.specs.declared.reference.Span.{Span}
use Rattle.calc_addr.specs.declared.reference.Span.TheVariants.{One, Cells}
use Rattle.calc_model.specs.declared.content.Content.{Content}
use Rattle.calc_model.specs.declared.content.Content.TheVariants.{Constant, Formula}
use Rattle.calc_model.specs.declared.tree.Op.TheVariants.{Add, Mul}
use Rattle.calc_model.specs.declared.tree.Tree.{Tree}
use Rattle.calc_model.specs.declared.tree.Tree.TheVariants.{Binary, Call, Ref}
use Rattle.calc_model.specs.declared.tree.Tree.TheVariants as trees
use Rattle.calc_model.specs.declared.value.Value.TheVariants.{Number}
use Rattle.calc_model.specs.Books.{Book}
use Rattle.calc_model.specs.CellEdits.{CellEntries, with_entries}

-- the raw number of a whole one
abbrev pub whole : ℕ → ℕ
whole n = n * 10 ^ 9

abbrev pub unmarked : Marks
unmarked = record { sheet = false; first_col = false; first_row = false; last_col = false; last_row = false }

-- rows of a column of the formula's sheet, spelled so, without a mark
abbrev pub column_reference : Span → ℕ → ℕ → ℕ → Reference
column_reference span col first last = record {
  area = record { sheet = 0; first_col = col; last_col = col; first_row = first; last_row = last };
  span = span;
  marks = unmarked;
}

abbrev pub cell_reference : ℕ → ℕ → Tree
cell_reference col row = Ref (column_reference One col row row)

abbrev pub generated_number : ℕ → ℕ → Content
generated_number start row = Constant (Number (pos (whole ((start + 37 * row) % 1000))))

abbrev pub doubled : ℕ → Tree
doubled row = Binary Mul (cell_reference 1 row) (trees.Number (pos (whole 2)))

abbrev pub running_sum : ℕ → Tree
running_sum row = if row == 1 then cell_reference 2 1 else Binary Add (cell_reference 3 (row - 1)) (cell_reference 2 row)

abbrev pub window_sum : ℕ → Tree
window_sum row = Call (codes "SUM") (Ref (column_reference Cells 1 (row - 7) row) ∷ [])

-- the cells of a column from a row to another
abbrev pub column_entries : ℕ → (ℕ → Content) → ℕ → ℕ → CellEntries
column_entries col content first last = map (λ row. (record { sheet = 0; col = col; row = row }, content row)) (from_to first last)

abbrev pub number_entries : ℕ → ℕ → CellEntries
number_entries start = column_entries 1 (generated_number start) 1

abbrev pub double_entries : ℕ → CellEntries
double_entries = column_entries 2 (λ row. Formula (doubled row)) 1

abbrev pub running_entries : ℕ → CellEntries
running_entries = column_entries 3 (λ row. Formula (running_sum row)) 1

abbrev pub window_entries : ℕ → CellEntries
window_entries = column_entries 4 (λ row. Formula (window_sum row)) 8

unfoldable pub generated_entries : ℕ → ℕ → CellEntries
generated_entries start rows = number_entries start rows ++ double_entries rows ++ running_entries rows ++ window_entries rows

-- the book of these cells alone
abbrev pub generated_book : ℕ → ℕ → Book
generated_book start rows = record { cells = with_entries [] (generated_entries start rows); names = [] }

-- What stands between the brackets of a formula's reference: the sheet where one is written, `.`, and
-- a cell, or two cells, columns or rows with `:.` between them, as in `.A1`, `$Sheet2.$A$1:.B2`,
-- `.A:.C` and `.1:.3`. A dollar sign before a coordinate marks it.
use Rattle.std.specs.Prelude.{◌≡◌, ◌≤◌, ℕ, Bool, false, ◌-◌, ◌&&◌, ◌==◌, nat_le, if◌then◌else◌, List, [], ◌∷◌, ◌++◌, length, take, drop, slice_index, codes, decimal, Option, Some, None, option_map, option_and_then}
use Rattle.std.specs.List.{list_any, before_first, after_first}
use Rattle.std.specs.Option.{option_or}
use Rattle.calc_addr.specs.declared.cell.TheConstants.{LAST_SHEET, LAST_COL, LAST_ROW}
use Rattle.calc_addr.specs.Addresses.{sheet_word}
use Rattle.calc_addr.specs.Ends.{in_order, whole, reference_of, cols_of, rows_of}
use Rattle.calc_addr.specs.Letters.{column_letters}
use Rattle.calc_addr.specs.References.{Reference}
use Rattle.calc_addr.specs.Spelling.{column_of, column_part, is_colon, is_point, row_of, row_part, sheet_of, undollared}
use Rattle.calc_addr.specs.declared.ends.End.{End}
use Rattle.calc_addr.specs.declared.ends.Ends.{Ends}
use Rattle.calc_addr.specs.declared.read.Spelled.{Spelled}
use Rattle.calc_addr.specs.declared.read.Spelled.TheVariants.{Is, Outside, Not}
use Rattle.calc_addr.specs.declared.reference.Span.{Span}
use Rattle.calc_addr.specs.declared.reference.Span.TheVariants as span

-- what is spelled, if it lies inside
abbrev pub inside : Spelled ℕ → Option ℕ
inside (Is n) = Some n
inside Outside = None
inside Not = None

-- both parts, where both are there
abbrev pub together : {A B C : Type 0} → (A → B → C) → Option A → Option B → Option C
together f (Some a) (Some b) = Some (f a b)
together f (Some a) None = None
together f None b = None

abbrev pub is_marked : List ℕ → Bool
is_marked [] = false
is_marked (c ∷ cs) = c == 36

-- a coordinate with the mark of its text
abbrev pub end_of : List ℕ → Option ℕ → Option End
end_of text at = option_map (λ n. record { at = n; marked = is_marked text }) at

abbrev pub column_end : List ℕ → Option End
column_end text = end_of text (inside (column_of (undollared text)))

abbrev pub row_end : List ℕ → Option End
row_end text = end_of text (inside (row_of (undollared text)))

-- a cell's column and row, each with its mark
abbrev pub corner_ends : List ℕ → Option (End × End)
corner_ends text = together (λ col row. (col, row)) (column_end (column_part text)) (row_end (row_part text))

-- a sheet's name without the quotes round it
abbrev pub bare_name : List ℕ → List ℕ
bare_name text =
    if (slice_index text 0 == 39) && (slice_index text (length text - 1) == 39) && nat_le 2 (length text)
    then take (length text - 2) (drop 1 text) else text

-- the sheet before the point: its name, which a dollar sign and quotes may go with, or none
abbrev pub written_sheet : List ℕ → Option (Option ℕ)
written_sheet text =
    if length text == 0 then Some None
    else option_map (λ sheet. Some sheet) (inside (sheet_of (bare_name (undollared text))))

-- the sheet of a reference, where one is written
abbrev pub IsSheet : Option ℕ → Type 0
IsSheet sheet = (n : ℕ) → sheet ≡ Some n → n ≤ LAST_SHEET

-- what follows a point in front
abbrev pub after_point : List ℕ → Option (List ℕ)
after_point [] = None
after_point (c ∷ cs) = if c == 46 then Some cs else None

-- one cell
abbrev pub one_cell : Option ℕ → List ℕ → Option Reference
one_cell sheet text =
    option_map (λ corner. reference_of sheet span.One (in_order corner.0 corner.0) (in_order corner.1 corner.1)) (corner_ends text)

-- two corners, columns or rows
abbrev pub two_cells : Option ℕ → List ℕ → List ℕ → Option Reference
two_cells sheet first last =
    together (λ a b. reference_of sheet span.Cells (in_order a.0 b.0) (in_order a.1 b.1)) (corner_ends first) (corner_ends last)

abbrev pub two_columns : Option ℕ → List ℕ → List ℕ → Option Reference
two_columns sheet first last =
    together (λ a b. reference_of sheet span.Columns (in_order a b) (whole LAST_ROW)) (column_end first) (column_end last)

abbrev pub two_rows : Option ℕ → List ℕ → List ℕ → Option Reference
two_rows sheet first last =
    together (λ a b. reference_of sheet span.Rows (whole LAST_COL) (in_order a b)) (row_end first) (row_end last)

abbrev pub two_ends : Option ℕ → List ℕ → List ℕ → Option Reference
two_ends sheet first last =
    option_or (two_cells sheet first last) (option_or (two_columns sheet first last) (two_rows sheet first last))

-- what stands after the sheet's point
abbrev pub spelled_span : Option ℕ → List ℕ → Option Reference
spelled_span sheet text =
    if list_any is_colon text
    then option_and_then (two_ends sheet (before_first is_colon text)) (after_point (after_first is_colon text))
    else one_cell sheet text

abbrev pub spelled_reference : List ℕ → Option Reference
spelled_reference text =
    if list_any is_point text
    then option_and_then (λ sheet. spelled_span sheet (after_first is_point text)) (written_sheet (before_first is_point text))
    else None

-- a coordinate with a dollar sign before it, where it is marked
abbrev pub with_dollar : Bool → List ℕ → List ℕ
with_dollar marked text = if marked then 36 ∷ text else text

abbrev pub column_text : End → List ℕ
column_text e = with_dollar e.marked (column_letters e.at)

abbrev pub row_text : End → List ℕ
row_text e = with_dollar e.marked (decimal e.at)

abbrev pub corner_text : End → End → List ℕ
corner_text col row = column_text col ++ row_text row

-- the printed ends, by how they were spelled
abbrev pub printed_span : Span → Ends → Ends → List ℕ
printed_span span.One cols rows = corner_text cols.first rows.first
printed_span span.Cells cols rows = corner_text cols.first rows.first ++ codes ":." ++ corner_text cols.last rows.last
printed_span span.Columns cols rows = column_text cols.first ++ codes ":." ++ column_text cols.last
printed_span span.Rows cols rows = row_text rows.first ++ codes ":." ++ row_text rows.last

-- the printed sheet, where one was written
abbrev pub printed_sheet : Reference → List ℕ
printed_sheet r = if r.marks.sheet then codes "$" ++ sheet_word r.area.sheet else []

abbrev pub printed_reference : Reference → List ℕ
printed_reference r = printed_sheet r ++ codes "." ++ printed_span r.span (cols_of r) (rows_of r)

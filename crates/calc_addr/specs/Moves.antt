-- What becomes of a reference when its formula moves by columns and rows. Each coordinate without a
-- mark moves as far as the formula, and where one leaves the sheet the reference is deleted. The ends
-- are then put in order on each axis, each with its mark. Whole columns have no coordinates in rows,
-- and whole rows have none in columns. A written sheet stays.
use Rattle.std.specs.Prelude.{◌≡◌, ◌⊎◌, ℕ, ℤ, pos, ◌+ℤ◌, int_le, unsigned_abs, ◌&&◌, if◌then◌else◌, Option, Some, None, option_map}
use Rattle.calc_addr.specs.declared.cell.TheConstants.{LAST_COL, LAST_ROW}
use Rattle.calc_addr.specs.Bracketed.{together}
use Rattle.calc_addr.specs.Ends.{in_order, cols_of, rows_of}
use Rattle.calc_addr.specs.References.{Reference}
use Rattle.calc_addr.specs.declared.ends.End.{End}
use Rattle.calc_addr.specs.declared.ends.Ends.{Ends}
use Rattle.calc_addr.specs.declared.reference.Span.{Span}
use Rattle.calc_addr.specs.declared.reference.Span.TheVariants as span

-- the coordinate at a distance, if it lies from 1 to the last one
abbrev pub at_distance : ℕ → ℤ → ℕ → Option ℕ
at_distance last distance at =
    let to = pos at +ℤ distance in
    if int_le (pos 1) to && int_le to (pos last) then Some (unsigned_abs to) else None

abbrev pub moved_end : ℕ → ℤ → End → Option End
moved_end last distance e =
    if e.marked then Some e else option_map (λ to. record e { at = to }) (at_distance last distance e.at)

abbrev pub moved_ends : ℕ → ℤ → Ends → Option Ends
moved_ends last distance ends = together in_order (moved_end last distance ends.first) (moved_end last distance ends.last)

abbrev pub moved_cols : Span → ℤ → Ends → Option Ends
moved_cols span.One distance ends = moved_ends LAST_COL distance ends
moved_cols span.Cells distance ends = moved_ends LAST_COL distance ends
moved_cols span.Columns distance ends = moved_ends LAST_COL distance ends
moved_cols span.Rows distance ends = Some ends

abbrev pub moved_rows : Span → ℤ → Ends → Option Ends
moved_rows span.One distance ends = moved_ends LAST_ROW distance ends
moved_rows span.Cells distance ends = moved_ends LAST_ROW distance ends
moved_rows span.Columns distance ends = Some ends
moved_rows span.Rows distance ends = moved_ends LAST_ROW distance ends

-- the reference with other ends
abbrev pub with_ends : Reference → Ends → Ends → Reference
with_ends r cols rows = record r {
  area = record r.area {
    first_col = cols.first.at;
    last_col = cols.last.at;
    first_row = rows.first.at;
    last_row = rows.last.at;
  };
  marks = record r.marks {
    first_col = cols.first.marked;
    first_row = rows.first.marked;
    last_col = cols.last.marked;
    last_row = rows.last.marked;
  };
}

abbrev pub moved_reference : ℤ → ℤ → Reference → Option Reference
moved_reference cols rows r = together (with_ends r) (moved_cols r.span cols (cols_of r)) (moved_rows r.span rows (rows_of r))

-- the same ends; where both are at one coordinate, in either order
abbrev pub AreSameEnds : Ends → Ends → Type 0
AreSameEnds e f = (f ≡ e) ⊎ ((e.first.at ≡ e.last.at) × (f ≡ record { first = e.last; last = e.first }))

-- the same reference, but for the order of such ends
pub record IsSameReference (r s : Reference) : Type 0 where
  pub span : s.span ≡ r.span
  pub sheet : s.area.sheet ≡ r.area.sheet
  pub sheet_mark : s.marks.sheet ≡ r.marks.sheet
  pub cols : AreSameEnds (cols_of r) (cols_of s)
  pub rows : AreSameEnds (rows_of r) (rows_of s)

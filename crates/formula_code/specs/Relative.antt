-- The relative form of a tree at a cell: each coordinate without a mark is replaced by its distance from the
-- cell. The rows of whole columns and the columns of whole rows are no coordinates, and stay. A distance d is
-- written as the number `last + d`, with the last coordinate of its axis, so that it is never negative.
use Rattle.std.specs.Prelude.{ℕ, ◌+◌, ◌-◌, ◌&&◌, not, Bool, true, false, if◌then◌else◌}
use Rattle.calc_addr.specs.declared.cell.TheConstants.{LAST_COL, LAST_ROW}
use Rattle.calc_addr.specs.declared.reference.Span.{Span}
use Rattle.calc_addr.specs.declared.reference.Span.TheVariants.{One, Cells, Columns, Rows}
use Rattle.calc_addr.specs.Places.{Place}
use Rattle.calc_addr.specs.References.{Reference}
use Rattle.calc_model.specs.declared.tree.Tree.{Tree}
use Rattle.calc_model.specs.declared.tree.Tree.TheVariants.{Ref}
use Rattle.calc_model.specs.TreeShifts.{replaced}

-- the columns of a reference are coordinates
abbrev pub has_cols : Span → Bool
has_cols One = true
has_cols Cells = true
has_cols Columns = true
has_cols Rows = false

-- the rows of a reference are coordinates
abbrev pub has_rows : Span → Bool
has_rows One = true
has_rows Cells = true
has_rows Columns = false
has_rows Rows = true

-- a coordinate that moves with the cell, as its distance
abbrev pub to_distance : Bool → ℕ → ℕ → ℕ → ℕ
to_distance moves last home at = if moves then last + at - home else at

-- the coordinate at that distance
abbrev pub from_distance : Bool → ℕ → ℕ → ℕ → ℕ
from_distance moves last home distance = if moves then home + distance - last else distance

-- a reference whose coordinates without marks are changed, those of columns in one way and those of rows
-- in another
abbrev pub with_coordinates : (Bool → ℕ → ℕ) → (Bool → ℕ → ℕ) → Reference → Reference
with_coordinates col row r = record r {
  area = record r.area {
    first_col = col (has_cols r.span && not r.marks.first_col) r.area.first_col;
    last_col = col (has_cols r.span && not r.marks.last_col) r.area.last_col;
    first_row = row (has_rows r.span && not r.marks.first_row) r.area.first_row;
    last_row = row (has_rows r.span && not r.marks.last_row) r.area.last_row;
  };
}

-- the reference of a formula at home, with distances
abbrev pub relative_reference : Place → Reference → Reference
relative_reference home r = with_coordinates (λ moves at. to_distance moves LAST_COL home.col at) (λ moves at. to_distance moves LAST_ROW home.row at) r

-- the reference with these distances, of a formula at home
abbrev pub absolute_reference : Place → Reference → Reference
absolute_reference home r = with_coordinates (λ moves to. from_distance moves LAST_COL home.col to) (λ moves to. from_distance moves LAST_ROW home.row to) r

-- the relative form of a tree at home
abbrev pub relative : Place → Tree → Tree
relative home = replaced (λ r. Ref (relative_reference home r))

-- the tree at home with that relative form
abbrev pub absolute : Place → Tree → Tree
absolute home = replaced (λ r. Ref (absolute_reference home r))

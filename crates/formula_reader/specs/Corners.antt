-- References without a sheet to a cell, or to the cells between two, as they are read from the left: each coordinate
-- is a dollar sign, where one marks it, and letters or digits.
use Rattle.std.specs.Prelude.{◌≡◌, ◌≤◌, ◌^◌, ℕ, Bool, true, false, if◌then◌else◌, nat_le, min, List, ◌++◌, take, length, Option, Some, option_map}
use Rattle.std.specs.List.{list_all, list_any}
use Rattle.calc_addr.specs.Bracketed.{corner_ends, with_dollar}
use Rattle.calc_addr.specs.References.{Reference}
use Rattle.calc_addr.specs.Spelling.{is_colon}
use Rattle.calc_addr.specs.declared.cell.TheConstants.{LAST_COL, LAST_ROW}
use Rattle.calc_addr.specs.declared.reference.Span.TheVariants as span
use Rattle.formula_reader.specs.declared.references.Corner.{Corner}
use Rattle.formula_reader.specs.declared.references.Corners.{Corners}
use Rattle.formula_reader.specs.declared.references.Corners.TheVariants.{One, Two}
use Rattle.formula_reader.specs.declared.references.End.{End}

-- so many bytes pass the test, and a number is what they write, or the bound where that is greater
pub record IsNumbered (test : ℕ → Bool) (value : List ℕ → ℕ) (bytes : List ℕ) (count number : ℕ) : Type 0 where
  pub within : count ≤ length bytes
  pub all : list_all test (take count bytes) ≡ true
  pub written : number ≡ min (value (take count bytes)) (10 ^ 8)

-- a coordinate up to the last is spelled in front, by a text of some form, and this stands behind it
pub record IsEnd (is_formed : List ℕ → Bool) (value : List ℕ → ℕ) (last : ℕ) (bytes : List ℕ) (end : End) (rest : List ℕ) : Type 0 where
  pub text : List ℕ
  pub joined : with_dollar end.marked text ++ rest ≡ bytes
  pub formed : is_formed text ≡ true
  pub written : value text ≡ end.at
  pub from : 1 ≤ end.at
  pub to : end.at ≤ last

-- the corner lies in the sheet
pub record IsCorner (corner : Corner) : Type 0 where
  pub col_from : 1 ≤ corner.col.at
  pub col_to : corner.col.at ≤ LAST_COL
  pub row_from : 1 ≤ corner.row.at
  pub row_to : corner.row.at ≤ LAST_ROW

-- the corner that a text spells
abbrev pub spelled_corner : List ℕ → Option Corner
spelled_corner text =
    option_map (λ ends. record {
      col = record { at = ends.0.at; marked = ends.0.marked };
      row = record { at = ends.1.at; marked = ends.1.marked };
    }) (corner_ends text)

-- the corner is spelled in front of the bytes, and this stands behind it
pub record IsInFront (bytes : List ℕ) (corner : Corner) (rest : List ℕ) : Type 0 where
  pub text : List ℕ
  pub joined : text ++ rest ≡ bytes
  pub spelled : spelled_corner text ≡ Some corner
  pub colonless : list_any is_colon text ≡ false

abbrev pub in_order : End → End → End × End
in_order first last = if nat_le first.at last.at then (first, last) else (last, first)

abbrev pub cell_reference : Corner → Reference
cell_reference corner = record {
  area = record {
    sheet = 0;
    first_col = corner.col.at;
    last_col = corner.col.at;
    first_row = corner.row.at;
    last_row = corner.row.at;
  };
  span = span.One;
  marks = record {
    sheet = false;
    first_col = corner.col.marked;
    first_row = corner.row.marked;
    last_col = corner.col.marked;
    last_row = corner.row.marked;
  };
}

abbrev pub corners_reference : Corner → Corner → Reference
corners_reference first last =
    let cols = in_order first.col last.col in
    let rows = in_order first.row last.row in
    record {
      area = record {
        sheet = 0;
        first_col = cols.0.at;
        last_col = cols.1.at;
        first_row = rows.0.at;
        last_row = rows.1.at;
      };
      span = span.Cells;
      marks = record {
        sheet = false;
        first_col = cols.0.marked;
        first_row = rows.0.marked;
        last_col = cols.1.marked;
        last_row = rows.1.marked;
      };
    }

-- the corners lie in the sheet
abbrev pub AreCorners : Corners → Type 0
AreCorners (One corner) = IsCorner corner
AreCorners (Two first last) = IsCorner first × IsCorner last

abbrev pub reference_of : Corners → Reference
reference_of (One corner) = cell_reference corner
reference_of (Two first last) = corners_reference first last

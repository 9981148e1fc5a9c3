-- What a book that takes its records one after the other has to do with the book of all records.
use Rattle.std.specs.Prelude.{ℕ, ◌+◌, ◌≡◌, ◌<◌, ◌≤◌, [], length, map, Option, Some, None}
use Rattle.std.specs.List.{All}
use Rattle.csv.specs.Records.{AllText, fields_of}
use Rattle.calc_addr.specs.declared.cell.TheConstants.{LAST_COL, LAST_ROW}
use Rattle.calc_model.specs.declared.limits.TheConstants.{MOST_CELLS}
use Rattle.formula_reader.specs.Fields.{field_of}
use Rattle.calc_book.specs.BookCells.{Entries, Records, filled, with_records}
use Rattle.calc_book.specs.declared.growing.GrowingBook.{GrowingBook}

-- the records that it took and doesn't hold
abbrev pub taken : GrowingBook → Records
taken g = map fields_of g.rows.items

-- the row behind these
abbrev pub next_row : GrowingBook → ℕ
next_row g = g.row + length (taken g)

-- its cells and theirs
abbrev pub cells_with : GrowingBook → Entries
cells_with g = with_records field_of g.row g.book.cells (taken g)

-- Of all records these are left, from a row on, and that many more fields may have a byte.
pub record Grown (g : GrowingBook) (room row : ℕ) (rest all : Records) : Type 0 where
  pub names : g.book.names ≡ []
  pub from : 1 ≤ g.row
  pub next : next_row g ≡ row
  pub to : row ≤ LAST_ROW + 1
  pub few : All (λ fields. length fields ≤ LAST_COL) (taken g)
  pub text : All AllText (taken g)
  pub cells : with_records field_of row (cells_with g) rest ≡ with_records field_of 1 [] all
  pub fits : length g.book.cells + filled (taken g) + room ≤ MOST_CELLS
  pub left : MOST_CELLS + filled rest ≡ room + filled all

-- The same where there is room, and else too many fields of all records have a byte.
abbrev pub GrowsIn : Option ℕ → GrowingBook → ℕ → Records → Records → Type 0
GrowsIn None g row rest all = MOST_CELLS < filled all
GrowsIn (Some room) g row rest all = Grown g room row rest all

abbrev pub Grows : GrowingBook → ℕ → Records → Records → Type 0
Grows g row rest all = GrowsIn g.room g row rest all

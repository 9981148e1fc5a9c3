-- What the bytes of a book give. Its records are those that csv reads of the bytes behind a byte order mark, with its
-- defaults and of any length. The k-th record is row k, and its j-th field is column j of the first sheet. A book is
-- refused that has too many bytes; then for its first record that is past the last row, has more fields than a sheet
-- has columns, or has a field that isn't UTF-8; and then where too many of its fields have a byte. What a field
-- holds is given: `field` says it of each text.
use Rattle.std.specs.Prelude.{ℕ, ◌+◌, ◌==◌, not, nat_lt, Bool, List, [], ◌∷◌, length, count_by, sum_by, Option, Some, None, option_map, if◌then◌else◌}
use Rattle.std.specs.Option.{option_or}
use Rattle.std.specs.Str.{is_utf8}
use Rattle.csv.specs.Reading.{default_config, records, strip_bom}
use Rattle.calc_addr.specs.Places.{Place}
use Rattle.calc_addr.specs.declared.cell.TheConstants.{LAST_COL, LAST_ROW}
use Rattle.calc_model.specs.declared.content.Content.{Content}
use Rattle.calc_model.specs.declared.limits.TheConstants.{MOST_CELLS}
use Rattle.calc_model.specs.Books.{Book, with_content}
use Rattle.calc_book.specs.declared.limits.TheConstants.{MOST_BYTES}
use Rattle.calc_book.specs.declared.cause.BookCause.{BookCause}
use Rattle.calc_book.specs.declared.cause.BookCause.TheVariants.{TooLarge, TooManyRows, TooManyFields, NotUtf8, CellsFull}

-- a record, and the records of a text, by their fields
abbrev pub Fields : Type 0
Fields = List (List ℕ)

abbrev pub Records : Type 0
Records = List Fields

unfoldable pub records_in : List ℕ → Records
records_in bytes = records default_config (strip_bom bytes)

-- the cell of a row's first field that isn't UTF-8, from a column on
abbrev pub bad_cell : ℕ → ℕ → Fields → Option Place
bad_cell row col [] = None
bad_cell row col (text ∷ texts) =
    if is_utf8 text then bad_cell row (col + 1) texts else Some (record { sheet = 0; col = col; row = row })

-- why a record can't be that row
abbrev pub record_fault : ℕ → Fields → Option BookCause
record_fault row fields =
    if nat_lt LAST_ROW row then Some TooManyRows
    else if nat_lt LAST_COL (length fields) then Some (TooManyFields row)
    else option_map NotUtf8 (bad_cell row 1 fields)

-- the fault of the first record that has one, from a row on
abbrev pub first_fault : ℕ → Records → Option BookCause
first_fault row [] = None
first_fault row (fields ∷ rest) = option_or (record_fault row fields) (first_fault (row + 1) rest)

abbrev pub has_bytes : List ℕ → Bool
has_bytes text = not (length text == 0)

-- how many fields have a byte
abbrev pub filled : Records → ℕ
filled all = sum_by (λ fields. count_by has_bytes fields) all

-- whether too many fields have a byte
abbrev pub full_fault : Records → Option BookCause
full_fault all = if nat_lt MOST_CELLS (filled all) then Some CellsFull else None

abbrev pub records_fault : Records → Option BookCause
records_fault all = option_or (first_fault 1 all) (full_fault all)

-- why a book of these bytes is refused, if it is
unfoldable pub book_fault : List ℕ → Option BookCause
book_fault bytes = if nat_lt MOST_BYTES (length bytes) then Some TooLarge else records_fault (records_in bytes)

abbrev pub Entries : Type 0
Entries = List (Place × Content)

module _ (field : List ℕ → Content) where
  -- the cells with a row's fields, from a column on
  abbrev pub with_fields : ℕ → ℕ → Entries → Fields → Entries
  with_fields row col cells [] = cells
  with_fields row col cells (text ∷ texts) =
      with_fields row (col + 1) (with_content cells (record { sheet = 0; col = col; row = row }) (field text)) texts

  -- the cells with the fields of records, from a row on
  abbrev pub with_records : ℕ → Entries → Records → Entries
  with_records row cells [] = cells
  with_records row cells (fields ∷ rest) = with_records (row + 1) (with_fields row 1 cells fields) rest

  -- the book of these bytes, which has no name
  abbrev pub book_read : List ℕ → Book
  book_read bytes = record { cells = with_records 1 [] (records_in bytes); names = [] }

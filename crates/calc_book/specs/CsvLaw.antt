-- What the records of a book's bytes have to do with csv's reading.
use Rattle.std.specs.Prelude.{ℕ, List}
use Rattle.csv.specs.Reading.{AreRecords, default_config, strip_bom}
use Rattle.csv.specs.declared.parser.State.TheVariants as st
use Rattle.calc_book.specs.BookCells.{records_in}

-- The records of all bytes are those of csv's relation, which says how its reader takes one after the other.
abbrev pub ReadsAsCsv : Type 0
ReadsAsCsv = (bytes : List ℕ) → AreRecords default_config st.StartRecord (strip_bom bytes) (records_in bytes)

-- The text of a record. Its fields are joined by commas, and a line feed ends it. A field that has a comma, a quote, a
-- carriage return or a line feed is put in quotes, with its own quotes doubled. A record of one empty field is `""`.
use Rattle.std.specs.Prelude.{ℕ, List}
use Rattle.csv.specs.Writing.{default_writer, row_text}

abbrev pub record_text : List (List ℕ) → List ℕ
record_text fields = row_text default_writer fields

-- How texts of cells are printed: a record for each row of an area.
use Rattle.std.specs.Prelude.{ℕ, List, map}
use Rattle.std.specs.List.{flat_map}
use Rattle.csv_records.specs.Records.{record_text}
use Rattle.calc_addr.specs.Places.{Place, Rectangle, places, rows_of}
use Rattle.calc_model.specs.Books.{Book, content_at}
use Rattle.calc_model.specs.Printed.{printed_content}
use Rattle.calc_model.specs.Scalars.{CellValues}
use Rattle.calc_model.specs.ValueTexts.{text_of}

-- a text for each cell
abbrev pub Texts : Type 0
Texts = Place → List ℕ

-- the texts of what the cells show, and of what they hold
abbrev pub shown_texts : CellValues → Texts
shown_texts values cell = text_of (values cell)

abbrev pub held_texts : Book → Texts
held_texts book cell = printed_content (content_at book cell)

-- the texts of a row's cells
abbrev pub row_texts : Texts → Rectangle → List (List ℕ)
row_texts texts row = map texts (places row)

unfoldable pub printed_area : Texts → Rectangle → List ℕ
printed_area texts area = flat_map (λ row. record_text (row_texts texts row)) (rows_of area)

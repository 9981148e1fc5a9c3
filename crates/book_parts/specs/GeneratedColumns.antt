-- The columns of the generated book.
use Rattle.std.specs.Prelude.{ℕ}
use Rattle.calc_addr.specs.Places.{Place}
use Rattle.calc_model.specs.declared.content.Content.{Content}
use Rattle.calc_model.specs.declared.content.Content.TheVariants.{Formula}
use Rattle.calc_model.specs.CellEdits.{CellEntries}
use Rattle.calc_model.specs.GeneratedBook.{column_entries, doubled, generated_number, running_sum, window_sum}
use Rattle.book_parts.specs.declared.generated.GeneratedColumn.{GeneratedColumn}
use Rattle.book_parts.specs.declared.generated.GeneratedColumn.TheVariants.{Numbers, Doubles, RunningSums, WindowSums}

abbrev pub col_of : GeneratedColumn → ℕ
col_of (Numbers start) = 1
col_of Doubles = 2
col_of RunningSums = 3
col_of WindowSums = 4

abbrev pub first_of : GeneratedColumn → ℕ
first_of WindowSums = 8
first_of _ = 1

abbrev pub place_of : GeneratedColumn → ℕ → Place
place_of column row = record { sheet = 0; col = col_of column; row = row }

abbrev pub content_of : GeneratedColumn → ℕ → Content
content_of (Numbers start) row = generated_number start row
content_of Doubles row = Formula (doubled row)
content_of RunningSums row = Formula (running_sum row)
content_of WindowSums row = Formula (window_sum row)

-- the column's entries from a row to another
abbrev pub entries_of : GeneratedColumn → ℕ → ℕ → CellEntries
entries_of column = column_entries (col_of column) (content_of column)

-- The commands that lines spell. A line that is empty, has spaces alone or begins with `#` does nothing.
-- A command's name stands at the line's start. Its other words must be of its form, then all that they
-- name must lie in the sheets, then it must not print, watch or make more than a line may, and then the name that it
-- defines must be one. What a field of a line holds is given: `field` says it of each text.
use Rattle.std.specs.Prelude.{◌≡◌, ℕ, ◌+◌, ◌==◌, ◌&&◌, nat_le, Bool, true, List, [], ◌∷◌, length, codes, Result, Ok, Err, if◌then◌else◌}
use Rattle.std.specs.Str.{bytes_eq, is_utf8}
use Rattle.calc_addr.specs.Places.{Place, Rectangle, cell_count}
use Rattle.calc_addr.specs.Spelling.{both, row_of, spelled_area, spelled_cell, spelled_col, spelled_row}
use Rattle.calc_addr.specs.ValidReferences.{is_rectangle}
use Rattle.calc_addr.specs.declared.cell.TheConstants.{LAST_COL, LAST_ROW, LAST_SHEET}
use Rattle.calc_addr.specs.declared.read.Spelled.{Spelled}
use Rattle.calc_addr.specs.declared.read.Spelled.TheVariants.{Is, Outside, Not}
use Rattle.calc_model.specs.declared.content.Content.{Content}
use Rattle.calc_model.specs.declared.limits.TheConstants.{MOST_GENERATED_ROWS, MOST_START}
use Rattle.calc_model.specs.declared.edit.Edit.TheVariants.{Set, Clear, Copy, Fill, InsertRows, DeleteRows, Name, Unname, Make}
use Rattle.calc_model.specs.declared.edit.EditCause.{EditCause}
use Rattle.calc_model.specs.declared.edit.EditCause.TheVariants.{OffSheet, BadName, NoName, NamesFull, RowsFull, CellsFull}
use Rattle.calc_model.specs.CellEdits.{area_at}
use Rattle.calc_model.specs.Step.{is_makeable}
use Rattle.calc_model.specs.Tokens.{is_name}
use Rattle.calc_script.specs.declared.command.Line.{Line}
use Rattle.calc_script.specs.declared.command.Line.TheVariants.{Nothing, Do, Refused}
use Rattle.calc_script.specs.declared.command.Command.{Command}
use Rattle.calc_script.specs.declared.command.Command.TheVariants as commands
use Rattle.calc_script.specs.declared.limits.TheConstants.{MOST_PRINTED, MOST_WATCHED}
use Rattle.calc_script.specs.declared.command.Cause.{Cause}
use Rattle.calc_script.specs.declared.command.Cause.TheVariants.{BadCommand, TooLarge, NoWatcher, Edit}
use Rattle.calc_script.specs.Words.{behind_space, is_idle, up_to_space, without_return, without_spaces, words_of}

-- the word that is printed for a cause
abbrev pub edit_cause_word : EditCause → List ℕ
edit_cause_word OffSheet = codes "off-sheet"
edit_cause_word BadName = codes "bad-name"
edit_cause_word NoName = codes "no-name"
edit_cause_word NamesFull = codes "names-full"
edit_cause_word RowsFull = codes "rows-full"
edit_cause_word CellsFull = codes "cells-full"

abbrev pub cause_word : Cause → List ℕ
cause_word BadCommand = codes "command"
cause_word TooLarge = codes "too-large"
cause_word NoWatcher = codes "no-watcher"
cause_word (Edit cause) = edit_cause_word cause

-- a command with what was read for it, or why it is refused
abbrev pub line_with : {A : Type 0} → (A → Command) → Result A Cause → Line
line_with command (Ok read) = Do (command read)
line_with command (Err cause) = Refused cause

-- an address, which must have its form, and then lie in the sheets
abbrev pub address_of : {A : Type 0} → Spelled A → Result A Cause
address_of (Is place) = Ok place
address_of Outside = Err (Edit OffSheet)
address_of Not = Err BadCommand

-- the words of a command that has one area and no more
unfoldable pub area_of : List (List ℕ) → Result Rectangle Cause
area_of [] = Err BadCommand
area_of (area ∷ []) = address_of (spelled_area area)
area_of (area ∷ other ∷ words) = Err BadCommand

-- an area of at most so many cells
abbrev pub few_cells : ℕ → Result Rectangle Cause → Result Rectangle Cause
few_cells most (Ok area) = if nat_le (cell_count area) most then Ok area else Err TooLarge
few_cells most (Err cause) = Err cause

-- the words of a command that has one column and no more
unfoldable pub col_of : List (List ℕ) → Result (ℕ × ℕ) Cause
col_of [] = Err BadCommand
col_of (col ∷ []) = address_of (spelled_col col)
col_of (col ∷ other ∷ words) = Err BadCommand

-- a command that has no other word
abbrev pub bare_line : Command → List (List ℕ) → Line
bare_line command [] = Do command
bare_line command (word ∷ words) = Refused BadCommand

-- what was read, where it passes a further test
abbrev pub tested : {A B : Type 0} → (A → Result B Cause) → Result A Cause → Result B Cause
tested test (Ok read) = test read
tested test (Err cause) = Err cause

-- the words of a command that has two addresses and no more: first both must have their form, and then
-- both must lie in the sheets
unfoldable pub two_addresses : {A B : Type 0} → (List ℕ → Spelled A) → (List ℕ → Spelled B) → List (List ℕ) → Result (A × B) Cause
two_addresses first second [] = Err BadCommand
two_addresses first second (word ∷ []) = Err BadCommand
two_addresses first second (word ∷ other ∷ []) = address_of (both (λ a b. (a, b)) (first word) (second other))
two_addresses first second (word ∷ other ∷ third ∷ words) = Err BadCommand

-- an area, and the cell where an area of that size begins, which lies in the same sheet
abbrev pub on_one_sheet : Rectangle × Place → Result (Rectangle × Place) Cause
on_one_sheet (area, to) =
    if (to.sheet == area.sheet) && is_rectangle (area_at area to) then Ok (area, to) else Err (Edit OffSheet)

-- a cell and an area of the same sheet
abbrev pub of_one_sheet : Place × Rectangle → Result (Place × Rectangle) Cause
of_one_sheet (from, area) = if from.sheet == area.sheet then Ok (from, area) else Err (Edit OffSheet)

-- a row of a sheet, and how many rows from there on, which the sheet has
abbrev pub within_sheet : (ℕ × ℕ) × ℕ → Result ((ℕ × ℕ) × ℕ) Cause
within_sheet ((sheet, row), count) =
    if nat_le (row + count) (LAST_ROW + 1) then Ok ((sheet, row), count) else Err (Edit OffSheet)

-- the area that a name is given
abbrev pub area_for : List ℕ → Rectangle → Result Rectangle Cause
area_for name area = if is_name name then Ok area else Err (Edit BadName)

-- `clear AREA`
unfoldable pub clear_of : List ℕ → Line
clear_of rest = line_with (λ area. commands.Edit (Clear area)) (area_of (words_of rest))

-- `copy AREA CELL`
unfoldable pub copy_of : List ℕ → Line
copy_of rest =
    line_with (λ read. commands.Edit (Copy read.0 read.1))
    (tested on_one_sheet (two_addresses spelled_area spelled_cell (words_of rest)))

-- `fill CELL AREA`
unfoldable pub fill_of : List ℕ → Line
fill_of rest =
    line_with (λ read. commands.Edit (Fill read.0 read.1))
    (tested of_one_sheet (two_addresses spelled_cell spelled_area (words_of rest)))

-- a row and a number of rows, which is spelled as that of a row is; more rows than the last one leave the sheet
unfoldable pub rows_of : List (List ℕ) → Result ((ℕ × ℕ) × ℕ) Cause
rows_of words = tested within_sheet (two_addresses spelled_row row_of words)

-- `insert ROW COUNT`
unfoldable pub insert_of : List ℕ → Line
insert_of rest = line_with (λ read. commands.Edit (InsertRows read.0.0 read.0.1 read.1)) (rows_of (words_of rest))

-- `delete ROW COUNT`
unfoldable pub delete_of : List ℕ → Line
delete_of rest = line_with (λ read. commands.Edit (DeleteRows read.0.0 read.0.1 read.1)) (rows_of (words_of rest))

-- `name NAME AREA`, of its words
unfoldable pub name_line : List (List ℕ) → Line
name_line [] = Refused BadCommand
name_line (name ∷ words) = line_with (λ area. commands.Edit (Name name area)) (tested (area_for name) (area_of words))

abbrev pub name_of : List ℕ → Line
name_of rest = name_line (words_of rest)

-- `unname NAME`, of its words
unfoldable pub unname_line : List (List ℕ) → Line
unname_line [] = Refused BadCommand
unname_line (name ∷ []) = Do (commands.Edit (Unname name))
unname_line (name ∷ other ∷ words) = Refused BadCommand

abbrev pub unname_of : List ℕ → Line
unname_of rest = unname_line (words_of rest)

-- a number that is no more than the most
abbrev pub no_more : ℕ → Spelled ℕ → Spelled ℕ
no_more most (Is n) = if nat_le n most then Is n else Outside
no_more most Outside = Outside
no_more most Not = Not

-- the number from which a book is made, which may be 0
abbrev pub start_of : List ℕ → Spelled ℕ
start_of word = if bytes_eq word (codes "0") then Is 0 else no_more MOST_START (row_of word)

-- numbers, which must have their form, and then be within their limits
abbrev pub within_limits : {A : Type 0} → Spelled A → Result A Cause
within_limits (Is numbers) = Ok numbers
within_limits Outside = Err TooLarge
within_limits Not = Err BadCommand

-- the start and the number of rows of a book that is made, which is spelled as that of a row is; the most rows are
-- fewer than those of a sheet
unfoldable pub sizes_of : List (List ℕ) → Result (ℕ × ℕ) Cause
sizes_of [] = Err BadCommand
sizes_of (start ∷ []) = Err BadCommand
sizes_of (start ∷ rows ∷ []) = within_limits (both (λ a b. (a, b)) (start_of start) (no_more MOST_GENERATED_ROWS (row_of rows)))
sizes_of (start ∷ rows ∷ third ∷ words) = Err BadCommand

-- `make START ROWS`
unfoldable pub make_of : List ℕ → Line
make_of rest = line_with (λ read. commands.Edit (Make read.0 read.1)) (sizes_of (words_of rest))

-- `calc`
unfoldable pub calc_of : List ℕ → Line
calc_of rest = bare_line commands.Calc (words_of rest)

-- `print AREA`
unfoldable pub print_of : List ℕ → Line
print_of rest = line_with commands.Print (few_cells MOST_PRINTED (area_of (words_of rest)))

-- `formulas AREA`
unfoldable pub formulas_of : List ℕ → Line
formulas_of rest = line_with commands.Formulas (few_cells MOST_PRINTED (area_of (words_of rest)))

-- `groups COL`
unfoldable pub groups_of : List ℕ → Line
groups_of rest = line_with (λ read. commands.Groups read.0 read.1) (col_of (words_of rest))

-- `blocks COL`
unfoldable pub blocks_of : List ℕ → Line
blocks_of rest = line_with (λ read. commands.Blocks read.0 read.1) (col_of (words_of rest))

-- `watch AREA`
unfoldable pub watch_of : List ℕ → Line
watch_of rest = line_with commands.Watch (few_cells MOST_WATCHED (area_of (words_of rest)))

-- `told`
unfoldable pub told_of : List ℕ → Line
told_of rest = bare_line commands.Told (words_of rest)

-- `unwatch`
unfoldable pub unwatch_of : List ℕ → Line
unwatch_of rest = bare_line commands.Unwatch (words_of rest)

-- the line of the command with that name, if there is one
abbrev pub named_line : List (List ℕ × (List ℕ → Line)) → List ℕ → List ℕ → Line
named_line [] name rest = Refused BadCommand
named_line (verb ∷ others) name rest = if bytes_eq name verb.0 then verb.1 rest else named_line others name rest

module _ (field : List ℕ → Content) where
  -- a cell, one space, and the field, which has a byte at least
  abbrev pub set_line : List ℕ → List ℕ → Line
  set_line address text =
      if length text == 0 then Refused BadCommand
      else line_with (λ cell. commands.Edit (Set cell (field text))) (address_of (spelled_cell address))

  -- `set CELL FIELD`
  unfoldable pub set_of : List ℕ → Line
  set_of rest = set_line (up_to_space (without_spaces rest)) (behind_space (without_spaces rest))

  -- the commands, each with its name, and what it does with what follows the space behind that
  abbrev pub verbs : List (List ℕ × (List ℕ → Line))
  verbs =
      (codes "set", set_of)
      ∷ (codes "clear", clear_of)
      ∷ (codes "copy", copy_of)
      ∷ (codes "fill", fill_of)
      ∷ (codes "insert", insert_of)
      ∷ (codes "delete", delete_of)
      ∷ (codes "name", name_of)
      ∷ (codes "unname", unname_of)
      ∷ (codes "make", make_of)
      ∷ (codes "calc", calc_of)
      ∷ (codes "print", print_of)
      ∷ (codes "formulas", formulas_of)
      ∷ (codes "groups", groups_of)
      ∷ (codes "blocks", blocks_of)
      ∷ (codes "watch", watch_of)
      ∷ (codes "told", told_of)
      ∷ (codes "unwatch", unwatch_of)
      ∷ []

  unfoldable pub command_of : List ℕ → List ℕ → Line
  command_of name rest = named_line verbs name rest

  -- a line without its return: a command is a text, and its name stands before the first space
  unfoldable pub text_line : List ℕ → Line
  text_line text =
      if is_idle text then Nothing
      else (if is_utf8 text then command_of (up_to_space text) (behind_space text) else Refused BadCommand)

  abbrev pub line_of : List ℕ → Line
  line_of line = text_line (without_return line)

-- there is such a column on such a sheet
abbrev pub is_column : ℕ → ℕ → Bool
is_column sheet col = nat_le sheet LAST_SHEET && (nat_le 1 col && nat_le col LAST_COL)

-- a command whose edit can be made, or whose column there is
abbrev pub is_makeable_command : Command → Bool
is_makeable_command (commands.Edit edit) = is_makeable edit
is_makeable_command (commands.Groups sheet col) = is_column sheet col
is_makeable_command (commands.Blocks sheet col) = is_column sheet col
is_makeable_command _ = true

abbrev pub is_makeable_line : Line → Bool
is_makeable_line (Do command) = is_makeable_command command
is_makeable_line _ = true

-- No line makes a greater book than such a book may be, or asks for a column that there isn't.
abbrev pub MakesSmallBooks : Type 0
MakesSmallBooks = (field : List ℕ → Content) (line : List ℕ) → is_makeable_line (line_of field line) ≡ true

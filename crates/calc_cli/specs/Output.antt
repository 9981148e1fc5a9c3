-- What the lines of a script write, one after the other, over a book. A line that is refused writes
-- `line N refused: CAUSE`, where N is its number from 1 on, and changes nothing. An edit writes nothing, but
-- `make` writes `made C cells, F formulas`, the numbers of the new book's cells and formulas.
-- `calc` writes `recalculated N`, where N is the number of stale formulas, and recalculates. `print`
-- recalculates and writes what its cells show, each evaluated alone from scratch; `formulas` writes what
-- they hold; `groups` and `blocks` write the groups and the blocks of a column. After a recalculation no formula is stale, and each watcher is told what changed. `watch` recalculates and
-- attaches a watcher from the stock, `told` writes what the watchers were told, and `unwatch` drops the last. What a field of a line holds is given: `field` says it
-- of each text.
use Rattle.std.specs.Prelude.{ℕ, ◌+◌, ◌-◌, ◌==◌, ◌||◌, Bool, true, false, List, [], ◌∷◌, ◌++◌, length, map, take, codes, Result, Ok, Err, if◌then◌else◌}
use Rattle.std.specs.Fmt.{decimal}
use Rattle.std.specs.List.{flat_map}
use Rattle.calc_addr.specs.Places.{Rectangle}
use Rattle.calc_model.specs.Books.{Book, formula_count}
use Rattle.calc_model.specs.Touched.{CellSet}
use Rattle.calc_model.specs.Stale.{count_in, is_formula_cell, stale_after}
use Rattle.calc_model.specs.Step.{step}
use Rattle.calc_model.specs.Val.{val}
use Rattle.calc_model.specs.declared.content.Content.{Content}
use Rattle.calc_model.specs.declared.edit.Edit.{Edit}
use Rattle.calc_model.specs.declared.edit.Edit.TheVariants.{Make}
use Rattle.calc_model.specs.declared.edit.EditCause.{EditCause}
use Rattle.calc_model.specs.Meanings.{values_in}
use Rattle.calc_watch.specs.Reports.{Watched, described, told_all, watched}
use Rattle.calc_script.specs.declared.command.Line.{Line}
use Rattle.calc_script.specs.declared.command.Line.TheVariants.{Nothing, Do, Refused}
use Rattle.calc_script.specs.declared.command.Command.{Command}
use Rattle.calc_script.specs.declared.command.Command.TheVariants as commands
use Rattle.calc_script.specs.declared.command.Cause.{Cause}
use Rattle.calc_script.specs.declared.command.Cause.TheVariants as causes
use Rattle.calc_script.specs.Commands.{line_of, cause_word}
use Rattle.calc_cli.specs.ColumnLines.{blocks_text, groups_text}
use Rattle.calc_cli.specs.Records.{held_texts, printed_area, shown_texts}

-- a book, which of its formulas are stale, the watchers that are attached, and how many more are in stock
pub record Session : Type 0 where
  pub book : Book
  pub stale : CellSet
  pub watchers : List Watched
  pub stock : ℕ

-- a loaded book, whose formulas are all stale, with no watcher attached
abbrev pub loaded : Book → ℕ → Session
loaded book stock = record { book = book; stale = is_formula_cell book; watchers = []; stock = stock }

-- after a recalculation, which tells each watcher what changed
abbrev pub recalculated : Session → Session
recalculated session = record session { stale = λ _. false; watchers = map (told_all (val session.book)) session.watchers }

-- with a watcher more, of an area whose values it knows
abbrev pub with_watcher : Session → Rectangle → Session
with_watcher session area = record session {
  watchers = session.watchers ++ watched area (values_in (val session.book) area) [] ∷ [];
  stock = session.stock - 1;
}

-- without the watcher that was attached last, which doesn't go back to the stock
abbrev pub without_watcher : Session → Session
without_watcher session = record session { watchers = take (length session.watchers - 1) session.watchers }

-- The session after a line, what the line writes, and whether it is refused.
pub record Answer : Type 0 where
  pub session : Session
  pub text : List ℕ
  pub refused : Bool

abbrev pub accepted : Session → List ℕ → Answer
accepted session text = record { session = session; text = text; refused = false }

abbrev pub refusal_text : ℕ → Cause → List ℕ
refusal_text number cause = codes "line " ++ decimal number ++ codes " refused: " ++ cause_word cause ++ codes "\n"

abbrev pub refusal : Session → ℕ → Cause → Answer
refusal session number cause = record { session = session; text = refusal_text number cause; refused = true }

-- what is written of an edit that gives this book
abbrev pub edit_text : Edit → Book → List ℕ
edit_text (Make start rows) book =
    codes "made " ++ decimal (length book.cells) ++ codes " cells, " ++ decimal (formula_count book) ++ codes " formulas\n"
edit_text _ book = []

-- an edit that gives a new book, or a cause
abbrev pub edited : Session → ℕ → Edit → Result Book EditCause → Answer
edited session number edit (Ok book) =
    accepted (record session { book = book; stale = stale_after session.book edit book session.stale }) (edit_text edit book)
edited session number edit (Err cause) = refusal session number (causes.Edit cause)

abbrev pub recalculation : Session → List ℕ
recalculation session = codes "recalculated " ++ decimal (count_in session.book session.stale) ++ codes "\n"

abbrev pub done : Session → ℕ → Command → Answer
done session number (commands.Edit edit) = edited session number edit (step session.book edit)
done session number commands.Calc = accepted (recalculated session) (recalculation session)
done session number (commands.Print area) = accepted (recalculated session) (printed_area (shown_texts (val session.book)) area)
done session number (commands.Formulas area) = accepted session (printed_area (held_texts session.book) area)
done session number (commands.Watch area) =
    if session.stock == 0 then refusal session number causes.NoWatcher
    else accepted (with_watcher (recalculated session) area) []
done session number commands.Told =
    if length session.watchers == 0 then refusal session number causes.NoWatcher
    else accepted session (flat_map (λ watch. described watch.told) session.watchers)
done session number commands.Unwatch =
    if length session.watchers == 0 then refusal session number causes.NoWatcher
    else accepted (without_watcher session) []
done session number (commands.Groups sheet col) = accepted session (groups_text session.book sheet col)
done session number (commands.Blocks sheet col) = accepted session (blocks_text session.book sheet col)

unfoldable pub answer : Session → ℕ → Line → Answer
answer session number Nothing = accepted session []
answer session number (Do command) = done session number command
answer session number (Refused cause) = refusal session number cause

module _ (field : List ℕ → Content) where
  -- what the lines write, from a number on
  abbrev pub output : Session → ℕ → List (List ℕ) → List ℕ
  output session number [] = []
  output session number (line ∷ lines) =
      let first = answer session number (line_of field line) in
      first.text ++ output first.session (number + 1) lines

  -- whether a line is refused
  abbrev pub has_refusal : Session → ℕ → List (List ℕ) → Bool
  has_refusal session number [] = false
  has_refusal session number (line ∷ lines) =
      let first = answer session number (line_of field line) in
      first.refused || has_refusal first.session (number + 1) lines

-- How a run ends, by its book and its script. A book may be refused, and then the script isn't looked at. A script
-- that is too long isn't taken. Otherwise the script's lines are answered one after the other over the book's cells, and
-- the status says whether a line was refused. What a field holds is given: `field` says it of each text. So is how many
-- watchers are in stock.
use Rattle.std.specs.Prelude.{ℕ, nat_lt, List, [], ◌++◌, length, codes, Option, Some, None, if◌then◌else◌}
use Rattle.byte_cuts.specs.Lines.{lines_of}
use Rattle.calc_model.specs.Books.{Book}
use Rattle.calc_model.specs.declared.content.Content.{Content}
use Rattle.calc_book.specs.declared.cause.BookCause.{BookCause}
use Rattle.calc_book.specs.BookCells.{book_fault, book_read}
use Rattle.calc_book.specs.Causes.{cause_text}
use Rattle.calc_cli.specs.declared.status.TheConstants.{BOOK_REFUSED, DONE, LINE_REFUSED, SCRIPT_TOO_LONG}
use Rattle.calc_cli.specs.declared.limits.TheConstants.{MOST_SCRIPT_BYTES}
use Rattle.calc_cli.specs.Output.{Session, has_refusal, loaded, output}

-- the status of the end, and all that is written before it
pub record Ending : Type 0 where
  pub status : ℕ
  pub written : List ℕ

unfoldable pub book_refused : BookCause → Ending
book_refused cause = record { status = BOOK_REFUSED; written = codes "book refused: " ++ cause_text cause ++ codes "\n" }

unfoldable pub too_long : Ending
too_long = record { status = SCRIPT_TOO_LONG; written = [] }

module _ (field : List ℕ → Content) where
  abbrev pub answered : Session → List (List ℕ) → Ending
  answered session lines = record {
    status = if has_refusal field session 1 lines then LINE_REFUSED else DONE;
    written = output field session 1 lines;
  }

  unfoldable pub calculated : ℕ → Book → List ℕ → Ending
  calculated stock book script = answered (loaded book stock) (lines_of script)

  -- the end, by why the book is refused, if it is
  abbrev pub ending_by : Option BookCause → ℕ → List ℕ → List ℕ → Ending
  ending_by (Some cause) stock book script = book_refused cause
  ending_by None stock book script =
      if nat_lt MOST_SCRIPT_BYTES (length script) then too_long else calculated stock (book_read field book) script

  abbrev pub ending : ℕ → List ℕ → List ℕ → Ending
  ending stock book script = ending_by (book_fault book) stock book script

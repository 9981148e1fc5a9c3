-- What a run does to its devices, whatever these tell.
use Rattle.std.specs.Prelude.{◌≡◌, ◌≢◌, ◌≤◌, ◌+◌, ◌⊎◌, ℕ, List, [], ◌++◌, drop, Option, Some}
use Rattle.std.specs.Io.KnownBytes.{Appends, Keeps}
use Rattle.calc_io.specs.Desk.{Books, told_book}
use Rattle.calc_io.specs.Faults.{Rose}
use Rattle.calc_io.specs.Sink.{HasRoom}
use Rattle.calc_model.specs.declared.content.Content.{Content}
use Rattle.calc_model.specs.Field.{ReadsFields}
use Rattle.calc_book.specs.declared.limits.TheConstants.{MOST_BYTES}
use Rattle.calc_cli.specs.declared.status.TheConstants.{BOOK_REFUSED, DESK_FAILED, LINE_REFUSED, NO_MEMORY, SCRIPT_TOO_LONG, SINK_FAILED}
use Rattle.calc_cli.specs.declared.limits.TheConstants.{MOST_SCRIPT_BYTES}
use Rattle.calc_cli.specs.Ending.{Ending, ending}
use Rattle.calc_words.specs.Words.{book_name}

-- The desk tells the book of that name, and its script.
pub record Tells (books : Option Books) (script_left : Option (List ℕ)) (name book script : List ℕ) : Type 0 where
  pub has_book : told_book books name ≡ Some book
  pub has_script : script_left ≡ Some script

-- The words name a book that the desk tells, and its script.
pub record Serves (books : Option Books) (script_left : Option (List ℕ)) (words : List (List ℕ)) (book script : List ℕ) : Type 0 where
  pub name : List ℕ
  pub is_named : book_name words ≡ Some name
  pub told : Tells books script_left name book script

-- a prefix of the whole was written
abbrev pub GrowsWithin : Option (List ℕ) → Option (List ℕ) → List ℕ → Type 0
GrowsWithin old new whole = (front : List ℕ) × (rest : List ℕ) × (whole ≡ front ++ rest) × Appends old new front

-- no device failed, and memory sufficed
pub record IsUndisturbed (status : ℕ) : Type 0 where
  pub desk : status ≢ DESK_FAILED
  pub sink : status ≢ SINK_FAILED
  pub memory : status ≢ NO_MEMORY

-- A run ended with this status, and the bytes written went from the old to the new. Where it was undisturbed, it
-- ended as this end says; always a prefix of the whole was written, and where the desk failed nothing.
pub record Ends (status : ℕ) (old new : Option (List ℕ)) (end : Ending) : Type 0 where
  pub done : IsUndisturbed status → status ≡ end.status
  pub all : IsUndisturbed status → Appends old new end.written
  pub prefix : GrowsWithin old new end.written
  pub nothing : status ≡ DESK_FAILED → Appends old new []

-- the end that some book and some script lead to, over the meaning of fields, with so many watchers in stock
abbrev pub IsEnding : ℕ → Ending → Type 0
IsEnding stock end = (field : List ℕ → Content) × ReadsFields field × (book : List ℕ) × (script : List ℕ) × (end ≡ ending field stock book script)

-- A run ended as it does for some book and some script.
abbrev pub EndsSomehow : ℕ → ℕ → Option (List ℕ) → Option (List ℕ) → Type 0
EndsSomehow stock status old new = (end : Ending) × IsEnding stock end × Ends status old new end

-- what is left of some bytes of which at most so many were taken
abbrev pub TakesAtMost : ℕ → List ℕ → Option (List ℕ) → Type 0
TakesAtMost most bytes left = (taken : ℕ) × (taken ≤ most) × (left ≡ Some (drop taken bytes))

-- What is left of the inputs after a run with this status. Where all lines were answered, both were read to their
-- ends; where the book was refused, nothing of the script was taken; and where the script is too long, one byte
-- more than it may have.
pub record LeavesInputs (status : ℕ) (script : List ℕ) (book_left script_left : Option (List ℕ)) : Type 0 where
  pub book_ends : status ≤ LINE_REFUSED → book_left ≡ Some []
  pub script_ends : status ≤ LINE_REFUSED → script_left ≡ Some []
  pub untaken : status ≡ BOOK_REFUSED → script_left ≡ Some script
  pub cut_off : status ≡ SCRIPT_TOO_LONG → script_left ≡ Some (drop (MOST_SCRIPT_BYTES + 1) script)

-- The same, and at no status is more taken of either than one byte past its limit. A book that couldn't be opened
-- leaves the one that was open as it was.
pub record TakesInputs (status : ℕ) (book script : List ℕ) (book_before book_left script_left : Option (List ℕ)) : Type 0 where
  pub leaves : LeavesInputs status script book_left script_left
  pub book_within : Keeps book_before book_left ⊎ TakesAtMost (MOST_BYTES + 1) book book_left
  pub script_within : TakesAtMost (MOST_SCRIPT_BYTES + 1) script script_left

-- A device's count of faults after a run: it never falls, and this status comes only where it rose.
pub record CountsFaults (failed status : ℕ) (old new : ℕ) : Type 0 where
  pub later : old ≤ new
  pub cause : status ≡ failed → Rose old new

-- a sink with room for what is written doesn't fail and counts nothing
abbrev pub TakesWhole : ℕ → Option ℕ → ℕ → ℕ → ℕ → Type 0
TakesWhole status room size old new = HasRoom room size → (status ≢ SINK_FAILED) × (new ≡ old)

-- The inputs of a run on the way to its end, as the code has them.
use Rattle.std.specs.Prelude.{◌≡◌, ℕ, ◌+◌, ◌≤◌, nat_lt, true, false, ⊤, List, [], drop, length, Option, None, Some, Result, Ok, Err, Vec}
use Rattle.std.specs.declared.alloc.Global.{Global}
use Rattle.calc_model.specs.Books.{Book}
use Rattle.calc_book.specs.declared.cause.BookCause.{BookCause}
use Rattle.calc_book.specs.BookCells.{book_fault, book_read}
use Rattle.formula_reader.specs.Fields.{field_of}
use Rattle.calc_cli.specs.declared.limits.TheConstants.{MOST_SCRIPT_BYTES}
use Rattle.calc_cli.specs.declared.input_bytes.Input.{Input}
use Rattle.calc_cli.specs.declared.input_bytes.Input.TheVariants.{BookInput, ScriptInput}
use Rattle.calc_cli.specs.declared.inputs.Inputs.{Inputs}
use Rattle.calc_cli.specs.declared.inputs.Inputs.TheVariants.{Loaded, Refused, TooLong}
use Rattle.calc_cli.specs.Ending.{Ending, book_refused, calculated, too_long}

-- what is left of an input, from what is left of both
abbrev pub left_of : Input → Option (List ℕ) → Option (List ℕ) → Option (List ℕ)
left_of BookInput book script = book
left_of ScriptInput book script = script

abbrev pub other : Input → Input
other BookInput = ScriptInput
other ScriptInput = BookInput

-- the end that the inputs lead to, with so many watchers in stock
abbrev pub ending_of : ℕ → Inputs → Ending
ending_of stock (Loaded book script) = calculated field_of stock book script.items
ending_of stock (Refused cause) = book_refused cause
ending_of stock TooLong = too_long

-- a script that was taken is within its limit
abbrev pub IsShort : Inputs → Type 0
IsShort (Loaded book script) = length script.items ≤ MOST_SCRIPT_BYTES
IsShort (Refused cause) = ⊤
IsShort TooLong = ⊤

-- what is left of the inputs once they are taken
abbrev pub IsLeft : Inputs → List ℕ → Option (List ℕ) → Option (List ℕ) → Type 0
IsLeft (Loaded book taken) script book_left script_left = (book_left ≡ Some []) × (script_left ≡ Some [])
IsLeft (Refused cause) script book_left script_left = script_left ≡ Some script
IsLeft TooLong script book_left script_left = script_left ≡ Some (drop (MOST_SCRIPT_BYTES + 1) script)

-- the script that was taken, or none where it is too long
abbrev pub IsTaken : Option (Vec ℕ Global) → List ℕ → Type 0
IsTaken None script = nat_lt MOST_SCRIPT_BYTES (length script) ≡ true
IsTaken (Some bytes) script = (nat_lt MOST_SCRIPT_BYTES (length script) ≡ false) × (bytes.items ≡ script)

-- the book that was read of these bytes, or why it is refused
abbrev pub IsLoaded : Result Book BookCause → List ℕ → Type 0
IsLoaded (Err cause) bytes = book_fault bytes ≡ Some cause
IsLoaded (Ok book) bytes = (book_fault bytes ≡ None) × (book ≡ book_read field_of bytes)

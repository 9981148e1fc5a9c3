-- What a call answers of a book that may be refused.
use Rattle.std.specs.Prelude.{◌≡◌, ⊤, Option, Some, None, Result, Ok, Err}
use Rattle.calc_book.specs.declared.cause.BookCause.{BookCause}
use Rattle.calc_book.specs.declared.cause.BookFault.{BookFault}
use Rattle.calc_book.specs.declared.cause.BookFault.TheVariants.{Refused, NoMemory}

-- Where memory sufficed, the call refuses the book for this fault, or finds none.
abbrev pub FindsFault : {A : Type 0} → Result A BookFault → Option BookCause → Type 0
FindsFault (Ok read) fault = fault ≡ None
FindsFault (Err (Refused cause)) fault = fault ≡ Some cause
FindsFault (Err (NoMemory refused)) fault = ⊤

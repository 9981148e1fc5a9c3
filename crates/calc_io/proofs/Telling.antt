-- What is told of books and of what is left.
use Rattle.std.proofs.Common.{◌≡◌, ℕ, List, Option, None, Some}
use Rattle.calc_io.specs.Desk.{Books, told_book, IsUnknown}

-- a book that is told isn't unknown
pub told-known : (books : Option Books) (name book : List ℕ) → told_book books name ≡ Some book → IsUnknown books name → ⊥
told-known None name book told unknown = unknown
told-known (Some books) name book told unknown = let none = rw told at unknown in cc

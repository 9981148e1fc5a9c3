-- A desk has books, each under its name, and one script. A book is opened and then read from its front, and so is
-- the script. A desk may tell what it has, or not: what isn't told is `None`.
use Rattle.std.specs.Prelude.{ℕ, List, Option, None, Some, IsSome, IsNone, map, Vec}
use Rattle.std.specs.Map.{lookup}
use Rattle.std.specs.Str.{bytes_eq}
use Rattle.std.specs.declared.alloc.Global.{Global}

-- names with the bytes of their books
abbrev pub Books : Type 0
Books = List (List ℕ × List ℕ)

-- the book of that name, the first where several have it
abbrev pub book_of : Books → List ℕ → Option (List ℕ)
book_of books name = lookup (λ key. bytes_eq key name) books

-- the book of that name, where it is told that there is one
abbrev pub told_book : Option Books → List ℕ → Option (List ℕ)
told_book None name = None
told_book (Some books) name = book_of books name

-- it is told that there is no book of that name
abbrev pub IsUnknown : Option Books → List ℕ → Type 0
IsUnknown None name = ⊥
IsUnknown (Some books) name = IsNone (book_of books name)

-- the books, what is left of the open one and what is left of the script are told
pub record IsTold (books : Option Books) (book_left script_left : Option (List ℕ)) : Type 0 where
  pub has_books : IsSome books
  pub has_book_left : IsSome book_left
  pub has_script_left : IsSome script_left

-- names with books that are kept as vectors
abbrev pub kept_books : List (List ℕ × Vec ℕ Global) → Books
kept_books books = map (λ book. (book.0, book.1.items)) books

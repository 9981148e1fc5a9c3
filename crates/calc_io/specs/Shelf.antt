-- What stands on a shelf in memory: its books, one of them open or none, and a script.
use Rattle.std.specs.Prelude.{ℕ, Bool, List, [], Option, None, Some, Vec, drop, slice_get}
use Rattle.std.specs.Str.{bytes_eq}
use Rattle.std.specs.declared.alloc.Global.{Global}
use Rattle.std.specs.Option.{option_map_or}
use Rattle.calc_io.specs.Desk.{Books, kept_books}
use Rattle.calc_io.specs.declared.shelf.Shelf.{Shelf}

-- the book has that name
abbrev pub is_named : List ℕ → List ℕ × Vec ℕ Global → Bool
is_named name book = bytes_eq book.0 name

-- the bytes of the book at a place, and none where no book stands there
abbrev pub book_at : Books → ℕ → List ℕ
book_at books place = option_map_or (λ book. book.1) (slice_get books place) []

-- the bytes of the open book
abbrev pub open_bytes : Books → Option ℕ → List ℕ
open_bytes books None = []
open_bytes books (Some place) = book_at books place

-- its books by name
abbrev pub shelf_books : Shelf → Books
shelf_books shelf = kept_books shelf.books.items

-- what is left of the open book
abbrev pub book_rest : Shelf → List ℕ
book_rest shelf = drop shelf.book_read (open_bytes (shelf_books shelf) shelf.opened)

-- what is left of the script
abbrev pub script_rest : Shelf → List ℕ
script_rest shelf = drop shelf.script_read shelf.script.items

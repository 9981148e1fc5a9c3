-- The words that are printed for why a book is refused.
use Rattle.std.specs.Prelude.{ℕ, List, ◌++◌, codes}
use Rattle.calc_addr.specs.Addresses.{address}
use Rattle.calc_book.specs.declared.cause.BookCause.{BookCause}
use Rattle.calc_book.specs.declared.cause.BookCause.TheVariants.{TooLarge, TooManyRows, TooManyFields, NotUtf8, CellsFull}

abbrev pub cause_text : BookCause → List ℕ
cause_text TooLarge = codes "too-large"
cause_text TooManyRows = codes "too-many-rows"
cause_text (TooManyFields row) = codes "too-many-fields"
cause_text (NotUtf8 cell) = codes "not-utf8 " ++ address cell
cause_text CellsFull = codes "cells-full"

-- Cells of a book that are looked at in runs, and its formulas by their codes.
use Rattle.std.specs.Prelude.{◌≡◌, ℕ, ◌+◌, ◌<◌}
use Rattle.calc_addr.specs.Places.{Place}
use Rattle.calc_model.specs.declared.content.Content.TheVariants.{Empty, Formula}
use Rattle.calc_model.specs.Books.{Book, content_at}
use Rattle.formula_code.specs.Codes.{Codes, IsCodeAt, tree_at}

-- so many cells of a column from that one on are empty
abbrev pub AreEmpty : Book → Place → ℕ → Type 0
AreEmpty book start count = (k : ℕ) → k < count → content_at book (record start { row = start.row + k }) ≡ Empty

-- The formula of a cell is that of a code at it.
pub record IsCodedIn (book : Book) (cell : Place) (codes : Codes) (id : ℕ) : Type 0 where
  pub at : IsCodeAt codes id cell
  pub content : content_at book cell ≡ Formula (tree_at codes id cell)

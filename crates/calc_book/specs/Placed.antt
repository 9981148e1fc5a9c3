-- The cells of rows of contents, on the way to those of a book.
use Rattle.std.specs.Prelude.{ℕ, ◌+◌, List, [], ◌∷◌, count_by}
use Rattle.calc_model.specs.declared.content.Content.{Content}
use Rattle.calc_model.specs.Books.{is_held, with_content}
use Rattle.calc_book.specs.BookCells.{Entries}

-- how many of the contents aren't empty
abbrev pub held_in : List Content → ℕ
held_in contents = count_by is_held contents

-- the cells with a row's contents, from a column on
abbrev pub with_contents : ℕ → ℕ → Entries → List Content → Entries
with_contents row col cells [] = cells
with_contents row col cells (content ∷ contents) =
    with_contents row (col + 1) (with_content cells (record { sheet = 0; col = col; row = row }) content) contents

-- the cells with rows of contents, from a row on
abbrev pub with_rows : ℕ → Entries → List (List Content) → Entries
with_rows row cells [] = cells
with_rows row cells (contents ∷ rest) = with_rows (row + 1) (with_contents row 1 cells contents) rest

-- Circles of reading. A cell is grounded after k rounds if it holds no formula, or if k is above 0 and
-- each cell that it reads is grounded after k - 1 rounds. A cell that is not grounded after one round
-- more than the book has formulas reaches a circle.
use Rattle.std.specs.Prelude.{ℕ, zero, suc, ◌+◌, Bool, not, List}
use Rattle.std.specs.List.{list_all}
use Rattle.calc_addr.specs.Places.{Place, Rectangle, places}
use Rattle.calc_model.specs.Books.{Book, content_at, is_formula, formula_count}
use Rattle.calc_model.specs.Reads.{reads}

-- whether each cell of these areas passes a test
abbrev pub all_cells : (Place → Bool) → List Rectangle → Bool
all_cells passes areas = list_all (λ area. list_all passes (places area)) areas

abbrev pub is_grounded : Book → ℕ → Place → Bool
is_grounded book zero cell = not (is_formula (content_at book cell))
is_grounded book (suc k) cell = all_cells (is_grounded book k) (reads book cell)

abbrev pub is_circular : Book → Place → Bool
is_circular book cell = not (is_grounded book (formula_count book + 1) cell)

-- Which formulas are stale, that is, have to be calculated again: all of a loaded book; after an edit those that
-- were stale before, at their moved place, and are still formulas, and every formula that the edit touches or that
-- reaches a touched cell by reading; after a recalculation none.
use Rattle.std.specs.Prelude.{◌≡◌, ℕ, zero, suc, ◌+◌, ◌&&◌, ◌||◌, Bool, true, List, length}
use Rattle.std.specs.List.{filter, list_any}
use Rattle.std.specs.Ordering.{eq_by_cmp}
use Rattle.calc_addr.specs.Places.{Place, Rectangle, place_cmp, places}
use Rattle.calc_model.specs.declared.edit.Edit.{Edit}
use Rattle.calc_model.specs.Books.{Book, content_at, is_formula, formula_count}
use Rattle.calc_model.specs.Reads.{reads}
use Rattle.calc_model.specs.Touched.{CellSet, moved, touched}

-- whether a cell of these areas passes a test
abbrev pub any_cell : CellSet → List Rectangle → Bool
any_cell passes areas = list_any (λ area. list_any passes (places area)) areas

-- The cell reaches one of some cells in at most k steps of reading: it is one of them, or it reads a cell
-- that reaches one in at most k - 1 steps.
abbrev pub reaches_in : Book → CellSet → ℕ → CellSet
reaches_in book cells zero q = cells q
reaches_in book cells (suc k) q = cells q || any_cell (reaches_in book cells k) (reads book q)

-- A cell that reaches one at all does so in no more steps than the book has formulas.
unfoldable pub reaches : Book → CellSet → CellSet
reaches book cells = reaches_in book cells (formula_count book + 1)

abbrev pub is_formula_cell : Book → CellSet
is_formula_cell book q = is_formula (content_at book q)

-- the stale formulas after an edit, from those before it
abbrev pub stale_after : Book → Edit → Book → CellSet → CellSet
stale_after before edit after stale q =
    is_formula_cell after q && (moved edit stale q || reaches after (touched before edit after) q)

-- how many cells of the book are among these
abbrev pub count_in : Book → CellSet → ℕ
count_in book cells = length (filter (λ entry. cells entry.0) book.cells)

-- The cell reaches one of some cells by reading: it is one of them, or it reads a cell that does.
pub data Reaches (book : Book) (cells : CellSet) : Place → Type 0 where
  itself : {q : Place} → cells q ≡ true → Reaches book cells q
  by_reading : {q read : Place} → any_cell (eq_by_cmp place_cmp read) (reads book q) ≡ true → Reaches book cells read → Reaches book cells q

-- The rounds of the definition suffice.
abbrev pub ReachesAtAll : Type 0
ReachesAtAll = (book : Book) (cells : CellSet) (q : Place) → Reaches book cells q → reaches book cells q ≡ true

abbrev pub ReachesIndeed : Type 0
ReachesIndeed = (book : Book) (cells : CellSet) (q : Place) → reaches book cells q ≡ true → Reaches book cells q

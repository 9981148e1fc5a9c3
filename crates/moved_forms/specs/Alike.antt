-- The rows of a column in which a formula that is moved there has one relative form.
use Rattle.std.specs.Prelude.{◌≡◌, ◌≤◌, ◌⊎◌, ℕ}
use Rattle.calc_addr.specs.Places.{Place}
use Rattle.calc_model.specs.declared.tree.Tree.{Tree}
use Rattle.calc_model.specs.Homes.{cols_between, rows_between}
use Rattle.calc_model.specs.TreeShifts.{moved_tree}
use Rattle.formula_code.specs.Relative.{relative}

-- the relative form in a cell of the formula of another
abbrev pub moved_form : Place → Tree → Place → Tree
moved_form from tree to = relative to (moved_tree (cols_between from to) (rows_between from to) tree)

-- the cell of the same column in another row
abbrev pub in_row : Place → ℕ → Place
in_row q row = record q { row = row }

-- In each row from the cell's down to the last the formula has the form that it has in the cell.
abbrev pub AreAlike : Place → Tree → Place → ℕ → Type 0
AreAlike from tree first last = (row : ℕ) → first.row ≤ row → row ≤ last → moved_form from tree (in_row first row) ≡ moved_form from tree first

-- The rows from the first to the last lie all above that row, or all below it.
abbrev pub AreOneSide : ℕ → ℕ → ℕ → Type 0
AreOneSide row first last = (row ≤ first) ⊎ (last ≤ row)

-- The cells that hold formulas, by the groups of their columns.
use Rattle.std.specs.Prelude.{ℕ, ◌+◌, ◌/◌, ◌%◌, List, [], ◌∷◌, ◌++◌, Option}
use Rattle.std.specs.List.{flat_map}
use Rattle.calc_addr.specs.declared.cell.TheConstants.{LAST_COL}
use Rattle.calc_addr.specs.Places.{Place, Rows}
use Rattle.cell_runs.specs.CellLists.{cells_of}
use Rattle.formula_groups.specs.declared.group.Group.{Group}
use Rattle.formula_groups.specs.Groups.{groups_of}

-- the rows of a group in the column with that number
abbrev pub rows_in : ℕ → Group → Rows
rows_in number g = record { sheet = number / LAST_COL; col = number % LAST_COL + 1; first = g.first; last = g.last }

-- the cells of groups of a column, downwards
abbrev pub cells_of_groups : ℕ → List Group → List Place
cells_of_groups number groups = flat_map (λ g. cells_of (rows_in number g)) groups

-- the cells with codes in columns from a number on
abbrev pub all_coded : ℕ → List (List (Option ℕ)) → List Place
all_coded number [] = []
all_coded number (c ∷ cs) = cells_of_groups number (groups_of c) ++ all_coded (number + 1) cs

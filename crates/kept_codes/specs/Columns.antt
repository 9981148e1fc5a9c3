-- The columns of all sheets, numbered from 0, those of the first sheet first.
use Rattle.std.specs.Prelude.{ℕ, ◌+◌, ◌/◌, ◌%◌}
use Rattle.calc_addr.specs.declared.cell.TheConstants.{LAST_COL}
use Rattle.calc_addr.specs.Places.{Place}

-- the cell of a column in a row
abbrev pub cell_in : ℕ → ℕ → Place
cell_in number row = record { sheet = number / LAST_COL; col = number % LAST_COL + 1; row = row }

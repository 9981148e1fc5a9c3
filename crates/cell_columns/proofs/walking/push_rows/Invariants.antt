use Rattle.std.proofs.Common.{ℕ, List, ◌+◌, ◌-◌, ◌≡◌, ◌≤◌, ◌++◌, take, drop}
use Rattle.calc_addr.specs.Places.{Place}
use Rattle.cell_columns.specs.Cells.{Column}
use Rattle.cell_columns.specs.Walks.{places_below}
use Rattle.cell_columns.proofs.walking.push_rows.Given as goal

-- the cells of the rows up to this one are there
pub record Pushed (first last row number : ℕ) (c : Column) (old now : List Place) : Type 0 where
  pub from : first ≤ row
  pub to : row ≤ last + 1
  pub places : now ≡ old ++ places_below number first (take (row - first) (drop (first - 1) c))

abbrev pub invariant-loop-filled : goal.invariant-loop-filled
invariant-loop-filled l = Pushed l.fn.first l.fn.last l.row l.fn.number l.fn.column.slots l.fn.out.items l.out.items

abbrev pub decreases-loop-filled : goal.decreases-loop-filled
decreases-loop-filled l = l.last + 1 - l.row

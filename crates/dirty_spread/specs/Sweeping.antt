-- The cells of runs that are sorted by their first cells, each once and in order.
use Rattle.std.specs.Prelude.{◌≡◌, ◌≤◌, ◌<◌, ◌↔◌, ℕ, true, List, take, slice_index_or, Contains}
use Rattle.std.specs.List.{AllPairs}
use Rattle.calc_addr.specs.Places.{IsBefore, IsPlace, Place, Rows}
use Rattle.cell_runs.specs.CellLists.{first_number, number_of}
use Rattle.dirty_spread.specs.Marking.{is_in_any}

-- the number of a cell in the order of cells
abbrev pub cell_number : Place → ℕ
cell_number q = number_of q.sheet q.col q.row

-- The cells of the first runs stand in a list, all in front of a number, and those from where the last run begins to
-- before that number are among them.
pub record IsSwept (runs : List Rows) (n next : ℕ) (cells : List Place) : Type 0 where
  pub in_order : AllPairs IsBefore cells
  pub valid : (q : Place) → Contains cells q → IsPlace q
  pub below : (q : Place) → Contains cells q → cell_number q < next
  pub exact : (q : Place) → Contains cells q ↔ (is_in_any q (take n runs) ≡ true)
  pub held : (q : Place) → IsPlace q → ((j : ℕ) (d : Rows) → j < n → first_number (slice_index_or runs j d) ≤ cell_number q) → cell_number q < next → Contains cells q

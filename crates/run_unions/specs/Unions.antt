-- The cells of runs, each once, in the order of cells.
use Rattle.std.specs.Prelude.{◌≡◌, ◌↔◌, Bool, true, ◌&&◌, ◌==◌, nat_le, List, Contains}
use Rattle.std.specs.List.{AllPairs, list_any}
use Rattle.calc_addr.specs.Places.{IsBefore, Place, Rows}

-- whether the cell is one of the run's
abbrev pub is_in : Place → Rows → Bool
is_in q run = ((q.sheet == run.sheet) && (q.col == run.col)) && (nat_le run.first q.row && nat_le q.row run.last)

pub record AreUnion (runs : List Rows) (cells : List Place) : Type 0 where
  pub in_order : AllPairs IsBefore cells
  pub exact : (q : Place) → Contains cells q ↔ (list_any (is_in q) runs ≡ true)

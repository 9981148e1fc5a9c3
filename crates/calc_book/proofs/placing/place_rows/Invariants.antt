-- the rows that are left make of the cells what all make of the first ones
use Rattle.std.proofs.Common.{◌≡◌, ◌+◌, ◌≤◌, length, map}
use Rattle.std.specs.List.{All}
use Rattle.std.specs.Prelude.{sum_by}
use Rattle.std.specs.Vec.Iter.{into_iter_items}
use Rattle.calc_addr.specs.declared.cell.TheConstants.{LAST_COL, LAST_ROW}
use Rattle.calc_model.specs.declared.limits.TheConstants.{MOST_CELLS}
use Rattle.calc_book.specs.Placed.{held_in, with_rows}
use Rattle.calc_book.proofs.placing.place_rows.Given as goal

abbrev pub invariant-loop-contents : goal.invariant-loop-contents
invariant-loop-contents l = record {
  so_far : with_rows l.row l.book.cells (map (λ row. row.items) (into_iter_items l.contents-iterator)) ≡ with_rows l.fn.first l.initial.book.cells (map (λ row. row.items) l.fn.rows.items);
  names : l.book.names ≡ l.initial.book.names;
  from : 1 ≤ l.row;
  rows : l.row + length (map (λ row. row.items) (into_iter_items l.contents-iterator)) ≡ l.fn.first + length (map (λ row. row.items) l.fn.rows.items);
  few : l.row + length (map (λ row. row.items) (into_iter_items l.contents-iterator)) ≤ LAST_ROW + 1;
  cols : All (λ row. length row ≤ LAST_COL) (map (λ row. row.items) (into_iter_items l.contents-iterator));
  room : length l.book.cells + sum_by held_in (map (λ row. row.items) (into_iter_items l.contents-iterator)) ≤ length l.initial.book.cells + sum_by held_in (map (λ row. row.items) l.fn.rows.items);
  whole : length l.initial.book.cells + sum_by held_in (map (λ row. row.items) l.fn.rows.items) ≤ MOST_CELLS;
}

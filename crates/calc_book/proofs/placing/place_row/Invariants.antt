-- the contents that are left make of the cells what all make of the first ones
use Rattle.std.proofs.Common.{◌≡◌, ◌+◌, ◌≤◌, length}
use Rattle.std.specs.Vec.Iter.{into_iter_items}
use Rattle.calc_addr.specs.declared.cell.TheConstants.{LAST_COL}
use Rattle.calc_book.specs.Placed.{held_in, with_contents}
use Rattle.calc_book.proofs.placing.place_row.Given as goal

abbrev pub invariant-loop-content : goal.invariant-loop-content
invariant-loop-content l = record {
  so_far : with_contents l.row l.col l.book.cells (into_iter_items l.content-iterator) ≡ with_contents l.row 1 l.initial.book.cells l.fn.contents.items;
  names : l.book.names ≡ l.initial.book.names;
  from : 1 ≤ l.col;
  few : l.col + length (into_iter_items l.content-iterator) ≤ LAST_COL + 1;
  room : length l.book.cells + held_in (into_iter_items l.content-iterator) ≤ length l.initial.book.cells + held_in l.fn.contents.items;
}

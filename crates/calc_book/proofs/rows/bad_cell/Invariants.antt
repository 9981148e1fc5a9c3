-- the fields so far are text
use Rattle.std.proofs.Common.{◌≡◌, ◌+◌, ◌≤◌, drop, length}
use Rattle.csv.specs.Records.{fields_of}
use Rattle.calc_addr.specs.declared.cell.TheConstants.{LAST_COL}
use Rattle.calc_book.specs.BookCells.{bad_cell}
use Rattle.calc_book.proofs.rows.bad_cell.Given as goal

abbrev pub invariant-loop-field : goal.invariant-loop-field
invariant-loop-field l = record {
  same : l.field-iterator.row.now ≡ l.fields;
  col : l.col ≡ l.field-iterator.at + 1;
  left : bad_cell l.row l.col (drop l.field-iterator.at (fields_of l.fields)) ≡ bad_cell l.row 1 (fields_of l.fields);
  few : length (fields_of l.fields) ≤ LAST_COL;
}

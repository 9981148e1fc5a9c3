-- the count so far, and that of the fields that are left
use Rattle.std.proofs.Common.{◌≡◌, ◌+◌, ◌≤◌, drop, length}
use Rattle.std.specs.Prelude.{count_by}
use Rattle.csv.specs.Records.{fields_of}
use Rattle.calc_addr.specs.declared.cell.TheConstants.{LAST_COL}
use Rattle.calc_book.specs.BookCells.{has_bytes}
use Rattle.calc_book.proofs.filled.filled_in.Given as goal

abbrev pub invariant-loop-field : goal.invariant-loop-field
invariant-loop-field l = record {
  same : l.field-iterator.row.now ≡ l.fields;
  left : l.count + count_by has_bytes (drop l.field-iterator.at (fields_of l.fields)) ≡ count_by has_bytes (fields_of l.fields);
  few : l.count ≤ l.field-iterator.at;
  short : length (fields_of l.fields) ≤ LAST_COL;
}

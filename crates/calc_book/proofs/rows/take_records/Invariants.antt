-- the records that the reader has left, of those that the book takes
use Rattle.std.proofs.Common.{◌≡◌, ◌+◌, ◌<◌, ◌≤◌, ℕ, List, Some}
use Rattle.csv.specs.Reading.{Ready, default_config}
use Rattle.csv.specs.declared.reader.Trim.TheVariants as trim
use Rattle.calc_addr.specs.declared.cell.TheConstants.{LAST_ROW}
use Rattle.calc_book.specs.BookCells.{first_fault, records_in}
use Rattle.calc_book.specs.Growing.{Grows}
use Rattle.calc_book.proofs.CsvRecords.{HasLeft}
use Rattle.calc_book.proofs.rows.take_records.Given as goal

abbrev pub invariant-loop-record : goal.invariant-loop-record
invariant-loop-record g l =
    (rest : List (List (List ℕ))) × record {
      trim : l.record-iterator.rdr.trim ≡ trim.None;
      ready : Ready l.record-iterator.rdr;
      turns : 0 < l.record-iterator.left;
      setup : l.record-iterator.rdr.config ≡ default_config;
      has : HasLeft (λ s. Some s.now) l.record-iterator.rdr rest;
      grows : Grows l.book l.row rest (records_in l.fn.bytes);
      fault : first_fault l.row rest ≡ first_fault 1 (records_in l.fn.bytes);
      from : 1 ≤ l.row;
      few : l.row ≤ LAST_ROW + 1;
    }

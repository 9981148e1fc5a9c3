-- The test of the size comes before that of the records.
use Rattle.std.proofs.Common.{length, cond, Some, sym, ap, subst}
use Rattle.std.proofs.lemmas.Bool.{le-ltb, lt-ltb}
use Rattle.formula_reader.proofs.OneMeaning.{over_fields}
use Rattle.calc_book.specs.declared.limits.TheConstants.{MOST_BYTES}
use Rattle.calc_book.specs.declared.cause.BookCause.TheVariants.{TooLarge}
use Rattle.calc_book.specs.declared.cause.BookFault.{BookFault}
use Rattle.calc_book.specs.BookCells.{book_fault, book_read, records_fault, records_in}
use Rattle.calc_book.specs.Loads.{FindsFault}
use Rattle.calc_book.proofs.loading.load.Goals as goal

pub returns-then-bytes-gt-MOST_BYTES-clause-fault : goal.returns-then-bytes-gt-MOST_BYTES-clause-fault
unfolding book_fault
returns-then-bytes-gt-MOST_BYTES-clause-fault g c =
    ap (λ long. cond long (Some TooLarge) (records_fault (records_in c.args.bytes.now))) (lt-ltb MOST_BYTES (length c.args.bytes.now) c.if-bytes-gt-MOST_BYTES.true)

pub returns-clause-book : goal.returns-clause-book
returns-clause-book g c = over_fields {E = BookFault} c.read_book.result (λ field. book_read field c.args.bytes.now) c.read_book.ensures.book

pub returns-clause-fault : goal.returns-clause-fault
unfolding book_fault
returns-clause-fault g c =
    let short = ap (λ long. cond long (Some TooLarge) (records_fault (records_in c.args.bytes.now))) (le-ltb MOST_BYTES (length c.args.bytes.now) c.if-bytes-gt-MOST_BYTES.false) in
    subst (FindsFault c.read_book.result) (sym short) c.read_book.ensures.fault

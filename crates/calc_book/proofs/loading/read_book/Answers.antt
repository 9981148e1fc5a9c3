-- The book begins with all records left.
use Rattle.calc_book.specs.BookCells.{records_in}
use Rattle.calc_book.proofs.loading.read_book.Goals as goal

pub take_records-requires-after_bounds : goal.take_records-requires-after_bounds
take_records-requires-after_bounds g c κs within = c.in-Ok.ensures (records_in c.args.bytes.now)

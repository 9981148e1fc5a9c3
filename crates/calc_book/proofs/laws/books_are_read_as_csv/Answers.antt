use Rattle.calc_book.proofs.CsvRecords.{read_as_csv}
use Rattle.calc_book.proofs.laws.books_are_read_as_csv.Goals as goal

pub returns : goal.returns
returns c = read_as_csv

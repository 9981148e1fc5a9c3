use Rattle.calc_model.proofs.BooksKept.{keeps_books}
use Rattle.calc_model.proofs.laws.edits_keep_books.Goals as goal

pub returns : goal.returns
returns c = keeps_books

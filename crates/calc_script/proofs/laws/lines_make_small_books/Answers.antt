use Rattle.calc_script.proofs.SmallBooks.{make_small_books}
use Rattle.calc_script.proofs.laws.lines_make_small_books.Goals as goal

pub returns : goal.returns
returns c = make_small_books

use Rattle.std.proofs.Common.{subst}
use Rattle.calc_model.specs.Books.{IsBook}
use Rattle.book_parts.proofs.Contents.{together}
use Rattle.book_parts.proofs.parts.BookParts.are_book.Goals as goal

pub returns : goal.returns
returns c = subst IsBook c.self.view_is (together c.self.inside.cells c.self.inside.names c.are_book.ensures c.entries.ensures.names)

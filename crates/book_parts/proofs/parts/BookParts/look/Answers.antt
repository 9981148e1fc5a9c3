use Rattle.std.proofs.Common.{subst}
use Rattle.calc_model.specs.Books.{Book, content_at}
use Rattle.cell_columns.specs.Looks.{IsLent}
use Rattle.book_parts.proofs.Contents.{same_content}
use Rattle.book_parts.proofs.parts.BookParts.look.Goals as goal

pub returns : goal.returns
returns c =
    let book : Book = record { cells = c.self.inside.cells; names = c.self.inside.names } in
    subst (λ (b : Book). IsLent (content_at b c.args.cell) c.look.result) c.self.view_is
    (subst (λ content. IsLent content c.look.result) (same_content book c.args.cell) c.look.ensures)

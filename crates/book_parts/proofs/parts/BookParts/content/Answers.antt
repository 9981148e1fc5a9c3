use Rattle.std.proofs.Common.{ap, ◌∙◌}
use Rattle.std.proofs.lemmas.Result.{IfOk-weaker}
use Rattle.calc_model.specs.Books.{Book, content_at}
use Rattle.book_parts.proofs.Contents.{same_content}
use Rattle.book_parts.proofs.parts.BookParts.content.Goals as goal

pub returns-clause-content : goal.returns-clause-content
returns-clause-content c =
    let book : Book = record { cells = c.self.inside.cells; names = c.self.inside.names } in
    IfOk-weaker c.content.result _ _ (λ content is. is ∙ same_content book c.args.cell ∙ ap (λ (b : Book). content_at b c.args.cell) c.self.view_is) c.content.ensures

use Rattle.std.proofs.Common.{◌+◌, sym, ap, ◌∙◌}
use Rattle.calc_addr.specs.Places.{Place}
use Rattle.calc_model.specs.Books.{Book, content_at}
use Rattle.book_parts.proofs.Contents.{same_content}
use Rattle.book_parts.proofs.parts.BookParts.empty_rows.Goals as goal

pub returns-clause-empty : goal.returns-clause-empty
returns-clause-empty c k h =
    let book : Book = record { cells = c.self.inside.cells; names = c.self.inside.names } in
    let q : Place = record c.args.start { row = c.args.start.row + k } in
    ap (λ (b : Book). content_at b q) (sym c.self.view_is) ∙ sym (same_content book q) ∙ c.empty_rows.ensures.empty k h

use Rattle.std.proofs.Common.{◌≡◌, sym, subst, ◌∙◌}
use Rattle.std.specs.List.{All}
use Rattle.calc_model.specs.Books.{Book, content_at}
use Rattle.cell_columns.proofs.Listed.{all_hold}
use Rattle.book_parts.proofs.Contents.{same_content}
use Rattle.book_parts.proofs.parts.BookParts.entries.Goals as goal

pub returns-clause-found : goal.returns-clause-found
returns-clause-found c =
    let book : Book = record { cells = c.self.inside.cells; names = c.self.inside.names } in
    subst (λ (b : Book). All (λ entry. content_at b entry.0 ≡ entry.1) b.cells) c.self.view_is
    (λ k d within. sym (same_content book _) ∙ all_hold c.self.inside.cells c.are_book.ensures.cells_in_order k d within)

use Rattle.std.proofs.Common.{◌≡◌, false, sym, ap, subst, ◌∙◌}
use Rattle.std.specs.Option.{IfNone}
use Rattle.calc_model.specs.Books.{Book, content_at, is_formula}
use Rattle.book_parts.specs.Runs.{IsCodedIn}
use Rattle.book_parts.proofs.Contents.{same_content, some_weaker}
use Rattle.book_parts.proofs.parts.BookParts.formula.Goals as goal

pub returns-clause-coded : goal.returns-clause-coded
returns-clause-coded c =
    let book : Book = record { cells = c.self.inside.cells; names = c.self.inside.names } in
    some_weaker c.formula.result
    (λ f is. subst (λ (b : Book). IsCodedIn b c.args.cell f.codes.now f.id) c.self.view_is (record { at = is.at; content = sym (same_content book c.args.cell) ∙ is.content }))
    c.formula.ensures.coded

pub returns-clause-none : goal.returns-clause-none
returns-clause-none c =
    let book : Book = record { cells = c.self.inside.cells; names = c.self.inside.names } in
    subst (λ content. IfNone c.formula.result (is_formula content ≡ false)) (same_content book c.args.cell ∙ ap (λ (b : Book). content_at b c.args.cell) c.self.view_is) c.formula.ensures.none

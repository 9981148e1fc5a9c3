use Rattle.std.proofs.Common.{◌≡◌, ◌↔◌, List, true, subst}
use Rattle.std.specs.Prelude.{Contains}
use Rattle.std.proofs.lemmas.Result.{IfOk-weaker}
use Rattle.calc_addr.specs.Places.{Place}
use Rattle.calc_model.specs.Books.{Book, content_at, is_formula}
use Rattle.cell_columns.specs.Cells.{cells_only}
use Rattle.book_parts.proofs.Contents.{same_content}
use Rattle.book_parts.proofs.parts.BookParts.formula_cells.Goals as goal

pub returns-clause-exact : goal.returns-clause-exact
returns-clause-exact c =
    let book : Book = record { cells = c.self.inside.cells; names = c.self.inside.names } in
    let Exact : Book → List Place → Type 0 = λ b cells. (q : Place) → Contains cells q ↔ (is_formula (content_at b q) ≡ true) in
    IfOk-weaker c.formula_cells.result (Exact (cells_only c.self.inside.cells)) (Exact c.args.self.now)
    (λ cells exact. subst (λ (b : Book). Exact b cells) c.self.view_is
    (λ q. subst (λ x. Contains cells q ↔ (is_formula x ≡ true)) (same_content book q) (exact q)))
    c.formula_cells.ensures.exact

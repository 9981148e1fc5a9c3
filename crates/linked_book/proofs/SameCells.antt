-- Books of the same cells have the same formulas.
use Rattle.std.proofs.Common.{◌≡◌, sym, ap, ◌∙◌}
use Rattle.calc_addr.specs.Places.{Place}
use Rattle.calc_model.specs.Books.{Book, content_at}
use Rattle.formula_code.specs.Codes.{Codes}
use Rattle.formula_code.specs.Coded.{AreFormulasOf, CodeColumns, formula_in}
use Rattle.cell_columns.specs.Cells.{cells_only}
use Rattle.book_parts.proofs.Contents.{same_content}

same_contents : (a b : Book) → a.cells ≡ b.cells → (q : Place) → content_at a q ≡ content_at b q
same_contents a b same q = sym (same_content a q) ∙ ap (λ cells. content_at (cells_only cells) q) same ∙ same_content b q

pub same_formulas : (codes : Codes) (columns : CodeColumns) (a b : Book) → a.cells ≡ b.cells → AreFormulasOf codes columns a → AreFormulasOf codes columns b
same_formulas codes columns a b same are q is = ap formula_in (sym (same_contents a b same q)) ∙ are q is

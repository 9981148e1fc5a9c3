use Rattle.std.proofs.Common.{ap, sym, subst, ◌∙◌}
use Rattle.calc_model.specs.Books.{Book}
use Rattle.formula_code.specs.Coded.{AreFormulasOf, formula_in}
use Rattle.formula_groups.specs.GroupRows.{columns_of}
use Rattle.book_parts.proofs.Contents.{same_content}
use Rattle.book_parts.proofs.parts.BookParts.coded.Goals as goal

pub returns-clause-formulas : goal.returns-clause-formulas
returns-clause-formulas c =
    let book : Book = record { cells = c.self.inside.cells; names = c.self.inside.names } in
    subst (AreFormulasOf c.coded.result.codes.now (columns_of c.coded.result.groups.now)) c.self.view_is
    (λ q is. ap formula_in (sym (same_content book q)) ∙ c.coded.ensures.formulas q is)

use Rattle.std.proofs.Common.{ap, not, ◌∙◌}
use Rattle.calc_model.specs.Books.{Book}
use Rattle.calc_model.specs.Results.{shown_by}
use Rattle.calc_model.specs.Scalars.{CellValues}
use Rattle.formula_results.specs.Results.{results_of}
use Rattle.workbook.specs.Workbook.{State, values_of}
use Rattle.workbook.proofs.workbook.Workbook.values.Goals as goal

pub returns-clause-fresh : goal.returns-clause-fresh
unfolding values_of
returns-clause-fresh c = λ fresh none q.
    ap (λ (values : CellValues). values q) c.of.ensures
    ∙ ap (λ (book : Book). shown_by book (results_of c.results.result.now) q) c.parts.ensures
    ∙ ap (λ rs. shown_by c.self.inside.book.book (results_of rs) q) c.results.ensures
    ∙ ap (λ (state : State). values_of state q) c.self.view_is
    ∙ fresh.values q (ap not (none q))

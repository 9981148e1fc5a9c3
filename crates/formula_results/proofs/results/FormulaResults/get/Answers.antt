use Rattle.std.proofs.Common.{ap, ◌∙◌, sym, subst}
use Rattle.calc_addr.specs.Places.{IsPlace}
use Rattle.calc_model.specs.ValueTexts.{lent}
use Rattle.formula_results.specs.Results.{result_of, results_of}
use Rattle.formula_results.proofs.results.FormulaResults.get.Goals as goal
use Rattle.formula_results.proofs.StoredValues.{lent_result, looked_result, place_is}

pub returns-in-Blank-clause-none : goal.returns-in-Blank-clause-none
returns-in-Blank-clause-none c =
    let at : IsPlace c.args.cell = subst IsPlace c.cell.view_is c.cell.invariant in
    ap (λ sheets. results_of sheets c.args.cell) (sym c.self.view_is) ∙ looked_result c.self.inside.values c.args.cell (lent c.look.result) (place_is c.args.cell at) c.look.ensures ∙ ap (λ seen. result_of (lent seen)) c.in-Blank.is

pub returns-in_default : goal.returns-in_default
returns-in_default c =
    let at : IsPlace c.args.cell = subst IsPlace c.cell.view_is c.cell.invariant in
    record {
      some = ap (λ sheets. results_of sheets c.args.cell) (sym c.self.view_is) ∙ looked_result c.self.inside.values c.args.cell (lent c.look.result) (place_is c.args.cell at) c.look.ensures ∙ lent_result c.look.result c.in_default.not-Blank;
      none = tt;
    }

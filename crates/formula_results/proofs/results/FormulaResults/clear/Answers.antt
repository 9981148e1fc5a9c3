use Rattle.std.proofs.Common.{subst}
use Rattle.std.proofs.lemmas.Result.{on_err_weaker, on_ok_weaker}
use Rattle.calc_addr.specs.Places.{IsRows}
use Rattle.formula_results.specs.Results.{Clears, SameResults, results_of}
use Rattle.formula_results.proofs.StoredValues.{clear_results, same_results}
use Rattle.formula_results.proofs.results.FormulaResults.clear.Goals as goal

pub returns-clause-ok : goal.returns-clause-ok
returns-clause-ok c =
    let rows : IsRows c.args.run = subst IsRows c.run.view_is c.run.invariant in
    on_ok_weaker c.clear.result (λ edited. subst (λ old. Clears (results_of old) (results_of c.clear.new.self) c.args.run) c.self.view_is (clear_results c.self.inside.values c.clear.new.self c.args.run rows c.clear.ensures.rows edited)) c.clear.ensures.ok

pub returns-clause-err : goal.returns-clause-err
returns-clause-err c =
    on_err_weaker c.clear.result (λ same. subst (λ old. SameResults (results_of old) (results_of c.clear.new.self)) c.self.view_is (same_results c.self.inside.values c.clear.new.self same)) c.clear.ensures.err

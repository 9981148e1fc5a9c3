use Rattle.std.proofs.Common.{arith, subst}
use Rattle.std.proofs.lemmas.Result.{on_err_weaker}
use Rattle.calc_addr.specs.Places.{IsRows}
use Rattle.formula_results.specs.Results.{SameResults, SetsRun, results_of}
use Rattle.formula_results.proofs.RunResults.{run_results}
use Rattle.formula_results.proofs.StoredValues.{on_both, same_results}
use Rattle.formula_results.proofs.results.FormulaResults.set_run.Goals as goal

pub returns-clause-ok : goal.returns-clause-ok
returns-clause-ok c =
    let run = c.args.run in
    let rows : IsRows run = subst IsRows c.run.view_is c.run.invariant in
    on_both c.set_run.result (λ sets all. subst (λ old. SetsRun (results_of old) (results_of c.set_run.new.self) run c.args.values.items) c.self.view_is (run_results c.self.inside.values c.set_run.new.self run c.args.values.items rows all (omega (arith, c.args.values.ok, c.requires.length)) c.requires.used sets)) c.set_run.ensures.ok c.set_run.ensures.rows

pub returns-clause-err : goal.returns-clause-err
returns-clause-err c =
    on_err_weaker c.set_run.result (λ same. subst (λ old. SameResults (results_of old) (results_of c.set_run.new.self)) c.self.view_is (same_results c.self.inside.values c.set_run.new.self same)) c.set_run.ensures.err

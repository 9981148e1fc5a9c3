use Rattle.std.proofs.Common.{None, ap, ◌∙◌}
use Rattle.std.specs.Prelude.{if◌then◌else◌}
use Rattle.formula_results.specs.Results.{results_of}
use Rattle.recalc.proofs.Adding.{none_in_part}
use Rattle.recalc.proofs.recalculating.clear_runs.Goals as goal

pub returns-in_err-clear-clause-others : goal.returns-in_err-clear-clause-others
returns-in_err-clear-clause-others c = λ q apart.
    let runs = c.args.runs.now in
    let i = c.loop-run.run-index in
    let parts = none_in_part runs i c.run-item.result c.loop-run-test.true c.run-item.is q apart in
    c.in_err-clear.ensures.err q ∙ c.loop-run.invariant q ∙ ap (λ b. if b then None else results_of c.args.results.now q) parts.0

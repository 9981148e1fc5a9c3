use Rattle.std.proofs.Common.{ap, ◌∙◌}
use Rattle.formula_results.specs.Results.{results_of}
use Rattle.formula_results.proofs.StoredValues.{no_results}
use Rattle.formula_results.proofs.results.FormulaResults.new.Goals as goal

pub returns : goal.returns
returns c = λ q. ap (λ sheets. results_of sheets q) c.new.ensures ∙ no_results q

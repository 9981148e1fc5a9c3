use Rattle.std.proofs.Common.{◌≡◌, ◌≤◌, ◌+◌, ◌-◌, length}
use Rattle.formula_results.specs.Results.{results_of}
use Rattle.recalc.proofs.RunValues.{AreValues}
use Rattle.recalc.proofs.evaluating.evaluate_run.Given as goal

abbrev pub invariant-loop-row : goal.invariant-loop-row
invariant-loop-row g l = record {
  values : AreValues l.parts (results_of l.initial.results) l.codes l.fn.code l.fn.run l.values.items;
  count : l.fn.run.first + length l.values.items ≡ l.row;
  steps : l.steps.count ≤ l.initial.steps.count + (l.row - l.fn.run.first);
  parts : l.steps.parts ≡ l.initial.steps.parts;
}

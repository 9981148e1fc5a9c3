use Rattle.std.proofs.Common.{◌≡◌, ◌≤◌, ◌+◌, take}
use Rattle.formula_results.specs.Results.{results_of}
use Rattle.dirty_spread.specs.Marking.{is_in_any}
use Rattle.dirty_spread.specs.ByParts.{cells_before}
use Rattle.recalc.specs.CodedUnits.{all_rows_of}
use Rattle.recalc.proofs.Adding.{IsOnWay}
use Rattle.recalc.proofs.evaluating.evaluate_units.Given as goal

abbrev pub invariant-loop-number : goal.invariant-loop-number
invariant-loop-number g l = record {
  way : IsOnWay l.parts (results_of l.initial.results) (results_of l.results) (λ q. is_in_any q (take l.number (all_rows_of l.units)));
  steps : l.steps.count ≤ l.initial.steps.count + cells_before (all_rows_of l.units) l.number;
  parts : l.steps.parts ≡ l.initial.steps.parts;
}

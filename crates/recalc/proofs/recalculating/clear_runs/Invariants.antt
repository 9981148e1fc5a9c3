use Rattle.std.proofs.Common.{◌≡◌, None, take}
use Rattle.std.specs.Prelude.{if◌then◌else◌}
use Rattle.calc_addr.specs.Places.{Place}
use Rattle.dirty_spread.specs.Marking.{is_in_any}
use Rattle.formula_results.specs.Results.{results_of}
use Rattle.recalc.proofs.recalculating.clear_runs.Given as goal

abbrev pub invariant-loop-run : goal.invariant-loop-run
invariant-loop-run l = (q : Place) → results_of l.results q ≡ (if is_in_any q (take l.run-index l.runs) then None else results_of l.initial.results q)

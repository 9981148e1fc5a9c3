use Rattle.std.proofs.Common.{◌≡◌, ◌≤◌, ◌+◌, ◌&&◌}
use Rattle.calc_model.specs.Stale.{count_in}
use Rattle.formula_results.specs.Results.{results_of}
use Rattle.listener_hub.specs.Hubs.{areas_read}
use Rattle.dirty_spread.specs.Waves.{has, is_done, problem_of}
use Rattle.cell_runs.specs.WaveLists.{lists_of}
use Rattle.recalc.specs.Units.{HaveUnits}
use Rattle.recalc.specs.Evaluating.{AreBefore, KeepsOthers}
use Rattle.recalc.proofs.recalculating.evaluate_waves.Given as goal

abbrev pub invariant-loop-k : goal.invariant-loop-k
invariant-loop-k g l = record {
  before : AreBefore l.parts (problem_of (areas_read l.hub) l.stale l.circles) l.k (results_of l.results);
  others : KeepsOthers (has l.stale) (results_of l.initial.results) (results_of l.results);
  steps : l.steps.count ≤ l.initial.steps.count + count_in l.parts (λ q. has l.stale q && is_done (problem_of (areas_read l.hub) l.stale l.circles) l.k q);
  few : l.count ≤ count_in l.parts (λ q. has l.stale q && is_done (problem_of (areas_read l.hub) l.stale l.circles) l.k q);
  units : HaveUnits l.parts (lists_of l.waves-inside.runs.items l.waves-inside.starts.items) l.k l.count;
  parts : l.steps.parts ≡ l.initial.steps.parts;
}

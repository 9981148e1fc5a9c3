use Rattle.std.proofs.Common.{◌≡◌, ◌≢◌, ℕ}
use Rattle.dirty_spread.specs.Levels.{IsOrdering, level, rest}
use Rattle.dirty_spread.specs.Waves.{problem_of}
use Rattle.dirty_spread.proofs.leveling.level_from.Given as goal

abbrev pub invariant-loop-frame : goal.invariant-loop-frame
invariant-loop-frame g l = record {
  ordering : IsOrdering (problem_of (g.H.Dependents.areas l.hub) l.stale l.circles) l.levels l.path.items;
  kept : (i : ℕ) → level l.levels i ≡ 0 → level l.fn.levels i ≡ 0;
  place : level l.levels l.place ≢ 0;
}

abbrev pub decreases-loop-frame : goal.decreases-loop-frame
decreases-loop-frame g l = rest l.levels l.path.items

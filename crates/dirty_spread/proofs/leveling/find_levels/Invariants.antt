use Rattle.std.proofs.Common.{◌≡◌, ◌≢◌, ◌<◌, ℕ, []}
use Rattle.dirty_spread.specs.Levels.{IsOrdering, level}
use Rattle.dirty_spread.specs.Waves.{problem_of}
use Rattle.dirty_spread.proofs.leveling.find_levels.Given as goal

abbrev pub invariant-loop-place : goal.invariant-loop-place
invariant-loop-place g l = record {
  ordering : IsOrdering (problem_of (g.H.Dependents.areas l.hub) l.stale l.circles) l.levels [];
  empty : l.path.items ≡ [];
  done : (i : ℕ) → i < l.place → level l.levels i ≢ 0;
}

use Rattle.std.proofs.Common.{ℕ, ◌+◌, ◌-◌, ◌*◌, ◌^◌, ◌≤◌}
use Rattle.calc_num.proofs.root.least_root.Given as goal

abbrev pub invariant-loop-root : goal.invariant-loop-root
invariant-loop-root l = l.root ≤ 2 ^ 60

abbrev pub decreases-loop-root : goal.decreases-loop-root
decreases-loop-root l = l.root

abbrev pub invariant-loop-root-2 : goal.invariant-loop-root-2
invariant-loop-root-2 l = record {
  small : l.root ≤ 2 ^ 60;
  least : (r : ℕ) → l.square ≤ r * (r + 1) → l.root ≤ r;
}

abbrev pub decreases-loop-root-2 : goal.decreases-loop-root-2
decreases-loop-root-2 l = 2 ^ 60 - l.root

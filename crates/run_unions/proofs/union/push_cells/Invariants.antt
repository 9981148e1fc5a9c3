use Rattle.std.proofs.Common.{◌≡◌, ◌++◌, ◌-◌, map}
use Rattle.std.specs.List.{range_with_len}
use Rattle.run_unions.specs.Keys.{place_at}
use Rattle.run_unions.proofs.union.push_cells.Given as goal

abbrev pub invariant-loop-key : goal.invariant-loop-key
invariant-loop-key l = l.out.items ≡ l.fn.out.items ++ map place_at (range_with_len l.first (l.key - l.first))

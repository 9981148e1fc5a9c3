-- The values of the parameters so far are counted.
use Rattle.std.proofs.Common.{◌≡◌, ◌≤◌, ◌+◌, ◌*◌, drop}
use Rattle.std.specs.List.{count_by}
use Rattle.fn_args.specs.Counts.{values_of_args}
use Rattle.fn_args.specs.Tallies.{MOST_IN_AREA}
use Rattle.fn_args.proofs.counts.count_list.Given as goal

abbrev pub invariant-loop-arg : goal.invariant-loop-arg
invariant-loop-arg g l =
    let v = g.V.Values.values l.values in
    (l.count + count_by (g.T.Test.test l.test) (values_of_args v (drop l.arg-index l.args)) ≡ count_by (g.T.Test.test l.test) (values_of_args v l.args)) ×
    (l.count ≤ l.arg-index * MOST_IN_AREA)

use Rattle.std.proofs.Common.{ap, arith}
use Rattle.std.specs.List.{count_by}
use Rattle.fn_args.proofs.Counting.{count-first, no_values}
use Rattle.fn_args.proofs.counts.count_list.Goals as goal

pub loop-arg-preserved : goal.loop-arg-preserved
loop-arg-preserved g c =
    let first = count-first (g.T.Test.test c.args.test.now) (g.V.Values.values c.args.values.now) c.args.args.now c.loop-arg.arg-index c.arg-item.result c.loop-arg-test.true c.arg-item.is in
    (omega (arith, first, c.count_arg-count.ensures.count, c.loop-arg.invariant.0), omega (arith, c.count_arg-count.ensures.few, c.loop-arg.invariant.1))

pub returns-clause-count : goal.returns-clause-count
returns-clause-count g c =
    let p = g.T.Test.test c.args.test.now in
    let none = ap (count_by p) (no_values (g.V.Values.values c.args.values.now) c.args.args.now c.loop-arg.arg-index (omega (arith, c.loop-arg-test.false))) in
    omega (arith, none, c.loop-arg.invariant.0)

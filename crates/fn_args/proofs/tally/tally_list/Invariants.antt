-- The numbers of the parameters so far were taken, and there is room for the values of the others.
use Rattle.std.proofs.Common.{◌*◌, drop, length}
use Rattle.fn_args.specs.Tallies.{MOST_IN_AREA, numbers_of_args}
use Rattle.fn_args.proofs.Tallying.{IsUnderWay}
use Rattle.fn_args.proofs.tally.tally_list.Given as goal

abbrev pub invariant-loop-arg : goal.invariant-loop-arg
invariant-loop-arg g l =
    let v = g.V.Values.values l.values in
    IsUnderWay g.T.Tally.step g.T.Tally.room l.fn.taker (length l.args * MOST_IN_AREA) (numbers_of_args v l.args) (numbers_of_args v (drop l.arg-index l.args)) (length (drop l.arg-index l.args) * MOST_IN_AREA) l.taker

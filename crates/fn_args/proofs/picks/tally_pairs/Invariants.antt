-- The numbers of the pairs so far were taken, and there is room for those that are left.
use Rattle.std.proofs.Common.{length}
use Rattle.std.specs.List.{zip}
use Rattle.calc_model.specs.Meanings.{values_in}
use Rattle.fn_args.specs.Picks.{picked_of}
use Rattle.fn_args.specs.Tallies.{numbers_in_cells}
use Rattle.fn_args.proofs.Tallying.{IsUnderWay}
use Rattle.fn_args.proofs.picks.tally_pairs.Given as goal

abbrev pub invariant-loop-pair : goal.invariant-loop-pair
invariant-loop-pair g l =
    let v = g.V.Values.values l.values in
    let all = zip (values_in v l.fn.tested) (values_in v l.fn.summed) in
    let passes = g.C.Test.test l.test in
    IsUnderWay g.T.Tally.step g.T.Tally.room l.fn.taker (length all) (numbers_in_cells (picked_of passes all)) (numbers_in_cells (picked_of passes l.pair-iterator)) (length l.pair-iterator) l.taker ×
    (goal.iterator-loop-pair g).can_next l.pair-iterator ×
    (goal.iterator-loop-pair g).is_finite l.pair-iterator

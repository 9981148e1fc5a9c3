-- The numbers of the pieces so far were taken, and there is room for the values that are left.
use Rattle.std.proofs.Common.{length}
use Rattle.calc_model.specs.Meanings.{values_in}
use Rattle.fn_args.specs.Tallies.{numbers_in_cells}
use Rattle.fn_args.proofs.Tallying.{IsUnderWay}
use Rattle.fn_args.proofs.tally.tally_area.Given as goal

abbrev pub invariant-loop-piece : goal.invariant-loop-piece
invariant-loop-piece g l =
    let all = values_in (g.V.Values.values l.values) l.fn.area in
    IsUnderWay g.T.Tally.step g.T.Tally.room l.fn.taker (length all) (numbers_in_cells all) (numbers_in_cells l.piece-iterator) (length l.piece-iterator) l.taker ×
    (goal.iterator-loop-piece g).can_next l.piece-iterator ×
    (goal.iterator-loop-piece g).is_finite l.piece-iterator

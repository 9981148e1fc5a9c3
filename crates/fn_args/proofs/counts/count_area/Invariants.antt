-- The values so far are counted.
use Rattle.std.proofs.Common.{◌≡◌, ◌+◌}
use Rattle.std.specs.List.{count_by}
use Rattle.calc_model.specs.Meanings.{values_in}
use Rattle.fn_args.proofs.counts.count_area.Given as goal

abbrev pub invariant-loop-piece : goal.invariant-loop-piece
invariant-loop-piece g l =
    (l.count + count_by (g.T.Test.test l.test) l.piece-iterator ≡ count_by (g.T.Test.test l.test) (values_in (g.V.Values.values l.values) l.fn.area)) ×
    (goal.iterator-loop-piece g).can_next l.piece-iterator ×
    (goal.iterator-loop-piece g).is_finite l.piece-iterator

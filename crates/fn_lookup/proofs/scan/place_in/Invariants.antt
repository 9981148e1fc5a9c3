-- What is left leads to what the whole line leads to, and the search hasn't ended.
use Rattle.std.proofs.Common.{◌≡◌, ◌+◌, ◌≤◌, false, length}
use Rattle.std.specs.Prelude.{fold}
use Rattle.calc_model.specs.Meanings.{values_in}
use Rattle.fn_args.specs.Lent.{wanted_value}
use Rattle.fn_lookup.specs.Scans.{with_value}
use Rattle.fn_lookup.proofs.Searching.{nothing}
use Rattle.fn_lookup.proofs.scan.place_in.Given as goal

abbrev pub invariant-loop-piece : goal.invariant-loop-piece
invariant-loop-piece g l =
    let all = values_in (g.V.Values.values l.values) l.fn.line in
    let step = with_value l.search (wanted_value l.sought) in
    (l.scan.ended ≡ false) ×
    (fold step l.scan l.piece-iterator ≡ fold step nothing all) ×
    (l.scan.place + length l.piece-iterator ≤ length all) ×
    (goal.iterator-loop-piece g).can_next l.piece-iterator ×
    (goal.iterator-loop-piece g).is_finite l.piece-iterator

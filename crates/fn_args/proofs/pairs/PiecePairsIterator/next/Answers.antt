use Rattle.std.proofs.Common.{◌≤◌, ap, length, map, subst, ◌∙◌, arith}
use Rattle.std.specs.List.{zip}
use Rattle.calc_addr.specs.Places.{IsInArea, places_from}
use Rattle.calc_model.specs.UsedCells.{values_of}
use Rattle.fn_args.specs.Pairs.{AreCut}
use Rattle.fn_args.proofs.Cutting.{fits}
use Rattle.fn_args.proofs.Stepping.{cut_some, pair-cut, pair-shorter}
use Rattle.fn_args.proofs.pairs.PiecePairsIterator.next.Goals as goal

pub behind-self-inside-requires-clause-within : goal.behind-self-inside-requires-clause-within
behind-self-inside-requires-clause-within g c =
    omega (arith, c.lesser-count.ensures, c.len.ensures, fits (g.V.Values.values c.self.inside.values.now) c.self.inside.first c.in_ok-first_cell.first_cell c.piece_at-first.result c.piece_at-first.ensures)

pub behind-self-inside-requires-2-clause-within : goal.behind-self-inside-requires-2-clause-within
behind-self-inside-requires-2-clause-within g c =
    omega (arith, c.lesser-count.ensures, c.len-2.ensures, fits (g.V.Values.values c.self.inside.values.now) c.self.inside.second c.in_ok-second_cell.second_cell c.piece_at-second.result c.piece_at-second.ensures)

pub returns-clause-steps : goal.returns-clause-steps
returns-clause-steps g c =
    let v = g.V.Values.values c.self.inside.values.now in
    let a = c.self.inside.first in
    let b = c.self.inside.second in
    let n = c.lesser-count.result in
    let some : 1 ≤ n = omega (arith, c.lesser-count.ensures, c.len.ensures, c.len-2.ensures, c.piece_at-first.ensures.some, c.piece_at-second.ensures.some) in
    let in_first : n ≤ length (values_of c.piece_at-first.result) = omega (arith, c.lesser-count.ensures, c.len.ensures) in
    let in_second : n ≤ length (values_of c.piece_at-second.result) = omega (arith, c.lesser-count.ensures, c.len-2.ensures) in
    let was_first = c.in_ok-first_cell.was {u = tt} in
    let was_second = c.in_ok-second_cell.was {u = tt} in
    let first = cut_some v a c.in_ok-first_cell.first_cell c.piece_at-first.result c.piece_at-first.ensures (subst (IsInArea a) was_first c.self.invariant.0) n c.behind-self-inside.result in_first c.behind-self-inside.ensures in
    let second = cut_some v b c.in_ok-second_cell.second_cell c.piece_at-second.result c.piece_at-second.ensures (subst (IsInArea b) was_second c.self.invariant.1) n c.behind-self-inside-2.result in_second c.behind-self-inside-2.ensures in
    subst (λ old. AreCut old (record { first = c.front.result; second = c.front-2.result }) (zip (map v (places_from a c.behind-self-inside.result)) (map v (places_from b c.behind-self-inside-2.result)))) c.self.view_is
    (pair-cut _ _ _ _ c.piece_at-first.result c.piece_at-second.result c.front.result c.front-2.result n some in_first in_second c.front.ensures c.front-2.ensures
    (ap (λ o. map v (places_from a o)) was_first ∙ first) (ap (λ o. map v (places_from b o)) was_second ∙ second))

pub returns-clause-goes : goal.returns-clause-goes
returns-clause-goes g c =
    record {
      on = λ _. (tt, tt, pair-shorter _ _ _ (returns-clause-steps g c));
      keeps = tt;
      rests = λ _. tt;
    }

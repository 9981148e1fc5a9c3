use Rattle.std.proofs.Common.{refl, sym, subst, ap, ◌∙◌, ◌≤◌, ◌+◌, ◌-◌, map}
use Rattle.calc_addr.specs.Places.{IsInArea, places_from}
use Rattle.fn_args.proofs.Cutting.{cut_step, fits, shorter}
use Rattle.fn_args.proofs.pieces.PiecesIterator.next.Goals as goal

pub behind-self-inside-requires-clause-within : goal.behind-self-inside-requires-clause-within
behind-self-inside-requires-clause-within g c =
    subst (λ n. n ≤ c.self.inside.area.last_row + 1 - c.in_ok-cell.cell.row) (sym c.len.ensures)
    (fits (g.V.Values.values c.self.inside.values.now) c.self.inside.area c.in_ok-cell.cell c.piece_at-piece.result c.piece_at-piece.ensures)

pub returns-clause-steps : goal.returns-clause-steps
returns-clause-steps g c =
    let v = g.V.Values.values c.self.inside.values.now in
    let a = c.self.inside.area in
    cut_step v a c.in_ok-cell.cell c.piece_at-piece.result c.len.result c.behind-self-inside.result _ _ c.piece_at-piece.ensures
    (subst (IsInArea a) (c.in_ok-cell.was {u = tt}) c.self.invariant)
    c.len.ensures c.behind-self-inside.ensures
    (ap (λ next. map v (places_from a next)) (sym (c.in_ok-cell.was {u = tt})) ∙ c.self.view_is) refl

pub returns-clause-goes : goal.returns-clause-goes
returns-clause-goes g c =
    record {
      on = λ _. (tt, tt, shorter _ _ c.piece_at-piece.result (returns-clause-steps g c));
      keeps = tt;
      rests = λ _. tt;
    }

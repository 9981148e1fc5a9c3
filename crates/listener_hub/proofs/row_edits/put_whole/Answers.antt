use Rattle.std.proofs.Common.{◌≡◌, true, cond, List, Some, sym, ap, subst, ◌∙◌}
use Rattle.std.specs.List.{All}
use Rattle.calc_addr.specs.Places.{Rows}
use Rattle.calc_model.specs.Ears.{ReadArea}
use Rattle.ears.specs.RunAreas.{LieInSheet}
use Rattle.registration_slab.specs.Slab.{areas_at, areas_of, is_in, steps_of}
use Rattle.listener_hub.proofs.Pieces.{cell_comes, last_stays, lie_after, piece_moved, steps_stay}
use Rattle.listener_hub.proofs.row_edits.put_whole.Goals as goal

pub run_after-requires-clause-stays : goal.run_after-requires-clause-stays
run_after-requires-clause-stays c = last_stays c.args.edit.now c.args.piece.now c.requires.order c.requires.rows c.requires.stays

pub put_joined-requires-clause-absent : goal.put_joined-requires-clause-absent
put_joined-requires-clause-absent c d at_place =
    let h : is_in c.in-Some.to d ≡ true = ap (λ (r : Rows). is_in r d) (sym c.registration_of.ensures.run) ∙ at_place in
    let from = cell_comes c.args.edit.now c.args.piece.now c.requires.order c.requires.rows c.in-Some.to (sym c.run_after.ensures ∙ c.in-Some.is) d h in
    c.requires.absent from.0 d from.1 from.2

pub registration_of-requires : goal.registration_of-requires
registration_of-requires c =
    subst (λ n. All (LieInSheet n) c.in_ok-moved.moved.items) (sym (steps_stay c.args.edit.now c.args.piece.now c.requires.order c.requires.rows c.in-Some.to (sym c.run_after.ensures ∙ c.in-Some.is)))
    (subst (λ (xs : List ReadArea). All (LieInSheet (steps_of c.args.piece.now)) xs) (sym c.in_ok-moved.ensures) (lie_after c.args.edit.now (steps_of c.args.piece.now) c.args.ears.now c.requires.edit c.requires.inside c.requires.ears))

pub returns-in_ok-put_joined-clause-areas : goal.returns-in_ok-put_joined-clause-areas
returns-in_ok-put_joined-clause-areas c =
    piece_moved c.args.edit.now c.args.piece.now c.in-Some.to c.args.ears.now c.in_ok-moved.moved.items c.args.fresh.now.registrations.items c.put_joined.new.slab.registrations.items
    c.requires.order c.requires.rows c.requires.ears (sym c.run_after.ensures ∙ c.in-Some.is) c.in_ok-moved.ensures
    (λ d. c.in_ok-put_joined.ensures.areas d
    ∙ ap (λ (r : Rows). cond (is_in r d) (Some (areas_at c.registration_of.result.ears.items r.first d.row)) (areas_of c.args.fresh.now.registrations.items d)) c.registration_of.ensures.run
    ∙ ap (λ (es : List ReadArea). cond (is_in c.in-Some.to d) (Some (areas_at es c.in-Some.to.first d.row)) (areas_of c.args.fresh.now.registrations.items d)) c.registration_of.ensures.ears)

use Rattle.std.proofs.Common.{◌≡◌, ◌-◌, List, map, refl, sym, ap, subst, ◌∙◌, arith}
use Rattle.std.specs.List.{All}
use Rattle.calc_addr.specs.Places.{Rows}
use Rattle.calc_model.specs.Ears.{ReadArea}
use Rattle.ears.specs.RunAreas.{LieInSheet, ear_below}
use Rattle.listener_hub.specs.Moves.{IsPieceMoved}
use Rattle.registration_slab.specs.Slab.{areas_of, steps_of}
use Rattle.registration_slab.proofs.Parts.{part_lies}
use Rattle.listener_hub.proofs.Rests.{part_moved}
use Rattle.listener_hub.proofs.row_edits.put_first_of.Goals as goal

pub put_first-requires-clause-inside : goal.put_first-requires-clause-inside
put_first-requires-clause-inside c =
    let run : Rows = c.args.registration.now.run in
    let are : c.deref-2.result.now ≡ map (λ e. ear_below e (c.args.first - run.first)) c.args.registration.now.ears.items =
    c.deref-2.ensures.value ∙ c.in_ok-ears.ensures ∙ ap (λ n. map (λ e. ear_below e n) c.deref.result.now) c.steps_before-before.ensures ∙ ap (map (λ e. ear_below e (c.args.first - run.first))) c.deref.ensures.value in
    subst (λ (r : Rows). All (LieInSheet (steps_of r)) c.deref-2.result.now) (sym c.rows_from-rest.ensures)
    (subst (λ (xs : List ReadArea). All (LieInSheet (run.last - c.args.first)) xs) (sym are)
    (part_lies run run.first c.args.first run.last c.args.registration.now.ears.items refl c.requires.low c.requires.high (omega arith) c.requires.registration.1))

pub returns-clause-areas : goal.returns-clause-areas
returns-clause-areas c =
    let run : Rows = c.args.registration.now.run in
    let are : c.deref-2.result.now ≡ map (λ e. ear_below e (c.args.first - run.first)) c.args.registration.now.ears.items =
    c.deref-2.ensures.value ∙ c.in_ok-ears.ensures ∙ ap (λ n. map (λ e. ear_below e n) c.deref.result.now) c.steps_before-before.ensures ∙ ap (map (λ e. ear_below e (c.args.first - run.first))) c.deref.ensures.value in
    part_moved c.args.edit.now c.args.registration.now c.args.first c.in_ok-last.last c.deref-2.result.now (areas_of c.args.fresh.now.registrations.items) (areas_of c.put_first.new.fresh.registrations.items) c.requires.low are
    (subst (λ (r : Rows). IsPieceMoved c.args.edit.now (record r { last = c.in_ok-last.last }) c.deref-2.result.now (areas_of c.args.fresh.now.registrations.items) (areas_of c.put_first.new.fresh.registrations.items)) c.rows_from-rest.ensures c.in_ok-last.ensures.areas)

use Rattle.std.proofs.Common.{List, get_or, take, sym, subst, ℕ}
use Rattle.std.proofs.lemmas.List.{take_more}
use Rattle.listener_hub.specs.Parting.{IsParting, first_row}
use Rattle.registration_slab.specs.Slab.{at}
use Rattle.listener_hub.proofs.PartSteps.{kept_front, no_parts, on_err, sorted_before, step}
use Rattle.listener_hub.proofs.parting.push_parts_at.Goals as goal

pub loop-place-init : goal.loop-place-init
loop-place-init c = no_parts c.args.registrations.now c.args.run.now c.args.parts.now.items c.args.ears.now.items c.first_of-next.result c.first_of-next.ensures

pub returns-in_err-next-clause-parts : goal.returns-in_err-next-clause-parts
returns-in_err-next-clause-parts c = on_err c.from_residual.result (kept_front c.args.parts.now.items c.loop-place.parts.items c.push_part_at.new.parts.items c.loop-place.invariant.parts c.loop-place.invariant.is c.in_err-next.ensures.parts)

pub returns-in_err-next-clause-ears : goal.returns-in_err-next-clause-ears
returns-in_err-next-clause-ears c = on_err c.from_residual.result (kept_front c.args.ears.now.items c.loop-place.ears.items c.push_part_at.new.ears.items c.loop-place.invariant.extra c.loop-place.invariant.ears_are c.in_err-next.ensures.ears)

pub loop-place-preserved : goal.loop-place-preserved
loop-place-preserved c =
    subst (λ (done : List ℕ). IsParting c.args.registrations.now c.args.run.now done c.args.parts.now.items c.push_part_at.new.parts.items c.args.ears.now.items c.push_part_at.new.ears.items c.in_ok-next.next)
    (sym (take_more c.args.places.now c.loop-place.place-index 0 c.loop-place-test.true))
    (step c.args.registrations.now c.requires.apart c.args.run.now (take c.loop-place.place-index c.args.places.now) c.args.parts.now.items c.loop-place.parts.items c.push_part_at.new.parts.items c.args.ears.now.items c.loop-place.ears.items c.push_part_at.new.ears.items c.loop-place.next c.in_ok-next.next (get_or c.args.places.now c.loop-place.place-index 0)
    c.loop-place.invariant (sorted_before (λ i. first_row (at c.args.registrations.now i)) c.args.places.now c.loop-place.place-index c.loop-place-test.true c.requires.sorted) c.in_ok-next.ensures.step)

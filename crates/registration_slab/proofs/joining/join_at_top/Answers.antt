use Rattle.std.proofs.Common.{refl, sym, ap, subst, ◌∙◌}
use Rattle.registration_slab.specs.declared.registration.Registration.{Registration}
use Rattle.registration_slab.specs.Joining.{IsAboveAt}
use Rattle.registration_slab.specs.Slab.{Registrations, at}
use Rattle.registration_slab.proofs.Joins.{at_top}
use Rattle.registration_slab.proofs.joining.join_at_top.Goals as goal

pub returns-in-Some-clause-joined : goal.returns-in-Some-clause-joined
returns-in-Some-clause-joined c =
    at_top c.args.slab.now.registrations.items c.take.new.slab.registrations.items c.args.slab.now.ears c.args.slab.now.homes c.requires.slab c.args.place c.take.ensures.left c.in-Some.upper c.args.lower c.extended.result
    (c.extended.ensures.run ∙ ap (λ (r : Registration). record c.in-Some.upper.run { last = r.run.last }) c.lower.view_is) c.extended.ensures.ears (sym c.take.ensures.was ∙ c.in-Some.is)
    (subst (λ (rs : Registrations). IsAboveAt (at rs c.args.place) c.args.lower) c.deref.ensures.value (c.if-not-is_above.ensures refl)) c.requires.absent c.requires.inside

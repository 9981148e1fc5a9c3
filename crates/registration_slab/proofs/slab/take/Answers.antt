use Rattle.std.proofs.Common.{◌&&◌, not, List, sym, ap, ◌∙◌}
use Rattle.std.specs.Prelude.{◌==◌}
use Rattle.calc_addr.specs.Places.{Rectangle}
use Rattle.calc_model.specs.Ears.{ReadArea}
use Rattle.area_listeners.specs.Pairs.{holds}
use Rattle.area_listeners.specs.Pairs.{is_same}
use Rattle.registration_slab.specs.declared.registration.Registration.{Registration}
use Rattle.registration_slab.specs.Slab.{is_heard}
use Rattle.registration_slab.proofs.Linked.{taken_slab}
use Rattle.registration_slab.proofs.slab.take.Goals as goal

pub returns-clause-slab : goal.returns-clause-slab
returns-clause-slab c =
    let r : Registration = c.in_ok-registration.registration in
    taken_slab c.args.slab.now.registrations.items c.take_at.new.registrations.items c.args.place r c.args.slab.now.ears c.args.slab.now.homes c.listen_no_more.new.listeners c.remove.new.self c.requires
    (sym c.take_at.ensures.was ∙ c.in_ok-registration.was) c.take_at.ensures.left
    (λ l. c.listen_no_more.ensures l
    ∙ ap (λ (xs : List ReadArea). holds c.args.slab.now.ears l && not ((l.id == c.args.place) && is_heard xs c.steps_of.result l.area)) c.deref.ensures.value
    ∙ ap (λ n. holds c.args.slab.now.ears l && not ((l.id == c.args.place) && is_heard r.ears.items n l.area)) c.steps_of.ensures.steps)
    (λ l. c.remove.ensures l ∙ ap (λ (a : Rectangle). holds c.args.slab.now.homes l && not (is_same l (record { area = a; id = c.args.place }))) c.area_of.ensures)

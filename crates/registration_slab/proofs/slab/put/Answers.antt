use Rattle.std.proofs.Common.{◌&&◌, ◌||◌, ℕ, List, refl, sym, ap, ◌∙◌}
use Rattle.std.specs.Prelude.{◌==◌}
use Rattle.calc_addr.specs.Places.{Rectangle}
use Rattle.calc_model.specs.Ears.{ReadArea}
use Rattle.area_listeners.specs.Pairs.{holds}
use Rattle.area_listeners.specs.Pairs.{is_same}
use Rattle.registration_slab.specs.Slab.{Registrations, at, is_heard}
use Rattle.registration_slab.proofs.Linked.{put_slab}
use Rattle.registration_slab.proofs.slab.put.Goals as goal

pub returns-clause-put : goal.returns-clause-put
returns-clause-put c = record {
  place = c.find_place-place.result;
  registration = record { run = c.args.run.now; ears = c.args.ears };
  was = ap (λ (xs : Registrations). at xs c.find_place-place.result) (sym c.deref.ensures.value) ∙ c.find_place-place.ensures.none;
  is = c.in_ok-put_at.ensures;
  run_is = refl;
  ears_are = refl;
}

pub returns-clause-slab : goal.returns-clause-slab
returns-clause-slab c =
    let p : ℕ = c.find_place-place.result in
    put_slab c.args.slab.now.registrations.items c.put_at.new.registrations.items p (record { run = c.args.run.now; ears = c.args.ears }) c.args.slab.now.ears c.args.slab.now.homes c.listen.new.listeners c.add.new.self c.requires.slab
    (ap (λ (xs : Registrations). at xs p) (sym c.deref.ensures.value) ∙ c.find_place-place.ensures.none)
    c.in_ok-put_at.ensures c.requires.absent c.steps_of.ensures.rows c.requires.inside
    (λ l. c.in_ok-listen.ensures l
    ∙ ap (λ (xs : List ReadArea). holds c.args.slab.now.ears l || ((l.id == p) && is_heard xs c.steps_of.result l.area)) c.deref-2.ensures.value
    ∙ ap (λ n. holds c.args.slab.now.ears l || ((l.id == p) && is_heard c.args.ears.items n l.area)) c.steps_of.ensures.steps)
    (λ l. c.in_ok-add.ensures.ok l ∙ ap (λ (a : Rectangle). holds c.args.slab.now.homes l || is_same l (record { area = a; id = p })) c.area_of.ensures)

use Rattle.std.proofs.Common.{◌++◌, List, ℕ, sym, ap, subst, ◌∙◌, append-nil}
use Rattle.std.specs.List.{list_any}
use Rattle.std.proofs.lemmas.Result.{on_ok_weaker}
use Rattle.calc_addr.specs.Places.{Place, Rectangle}
use Rattle.area_listeners.specs.Pairs.{AreMeeting}
use Rattle.listener_hub.specs.Hits.{registered_areas}
use Rattle.registration_slab.specs.Slab.{Registrations, area_of, at, has_cell}
use Rattle.listener_hub.proofs.Reading.{reads_nowhere, reads_there, run_of}
use Rattle.listener_hub.proofs.readers.push_reads.Goals as goal

pub returns-in-Some-clause-ok : goal.returns-in-Some-clause-ok
returns-in-Some-clause-ok c =
    on_ok_weaker c.push_areas_at.result
    (λ e. e ∙ ap (λ (xs : List Rectangle). c.args.out.now.items ++ xs)
    (ap (λ (rs : Registrations). registered_areas (at rs c.in-Some.place) c.args.cell.now) c.deref-in-Some.ensures.value
    ∙ reads_there c.args.slab.now.registrations.items c.args.slab.now.ears c.args.slab.now.homes c.requires c.args.cell.now c.in-Some.place
    (ap (λ (rs : Registrations). has_cell (at rs c.in-Some.place) c.args.cell.now) (sym c.deref.ensures.value) ∙ c.in-Some.ensures.found)))
    c.push_areas_at.ensures.ok

pub returns-clause-ok : goal.returns-clause-ok
returns-clause-ok c =
    let q : Place = c.args.cell.now in
    let nothing =
    reads_nowhere c.args.slab.now.registrations.items c.args.slab.now.ears c.args.slab.now.homes c.requires q c.in_ok-places.places.items
    (subst (λ (p : Place). AreMeeting c.args.slab.now.homes (area_of (run_of p)) c.in_ok-places.places.items) c.cell.view_is
    (subst (λ (a : Rectangle). AreMeeting c.args.slab.now.homes a c.in_ok-places.places.items) c.area_of.ensures c.in_ok-places.ensures))
    (ap (λ (xs : List ℕ). list_any (λ i. has_cell (at c.args.slab.now.registrations.items i) q) xs) (sym c.deref-2.ensures)
    ∙ ap (λ (rs : Registrations). list_any (λ i. has_cell (at rs i) q) c.deref-2.result.now) (sym c.deref.ensures.value) ∙ c.in-None.ensures.none) in
    sym (ap (λ (xs : List Rectangle). c.args.out.now.items ++ xs) nothing ∙ append-nil c.args.out.now.items)

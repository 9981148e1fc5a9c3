use Rattle.std.proofs.Common.{List, ℕ, Bool, subst}
use Rattle.calc_addr.specs.Places.{IsRectangle, Place, Rows}
use Rattle.listener_hub.specs.Hits.{any_hit}
use Rattle.listener_hub.specs.Reaching.{GetReached}
use Rattle.registration_slab.specs.Slab.{Registrations, areas_of}
use Rattle.listener_hub.proofs.Exact.{exact}
use Rattle.listener_hub.proofs.Reached.{reached}
use Rattle.listener_hub.proofs.reaching.stretches.Goals as goal

pub returns : goal.returns
returns c =
    let rs = c.args.slab.now.registrations.items in
    let area = c.args.area.now in
    let set : Place → Bool = λ q. any_hit rs area q c.in_ok-places.places.items in
    reached (areas_of rs) area c.push_all_stretches.new.out.items set
    (exact rs c.args.slab.now.ears c.args.slab.now.homes c.requires area (subst IsRectangle c.area.view_is c.area.invariant) c.in_ok-places.places.items c.in_ok-places.ensures)
    (subst (λ (old : List Rows). GetReached (areas_of rs) area set old c.push_all_stretches.new.out.items) c.new-runs.ensures.items
    (subst (λ (ids : List ℕ). GetReached (areas_of rs) area (λ q. any_hit rs area q ids) c.new-runs.result.items c.push_all_stretches.new.out.items) c.deref-2.ensures
    (subst (λ (xs : Registrations). GetReached (areas_of xs) area (λ q. any_hit xs area q c.deref-2.result.now) c.new-runs.result.items c.push_all_stretches.new.out.items) c.deref.ensures.value
    c.in_ok-push_all_stretches.ensures)))

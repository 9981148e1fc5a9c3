use Rattle.std.proofs.Common.{◌||◌, List, ℕ, ap, subst, ◌∙◌}
use Rattle.std.specs.List.{list_any}
use Rattle.calc_addr.specs.Places.{IsRectangle, Rows}
use Rattle.run_unions.specs.Unions.{is_in}
use Rattle.listener_hub.specs.Hits.{any_hit}
use Rattle.registration_slab.specs.Slab.{Registrations}
use Rattle.listener_hub.proofs.Exact.{exact}
use Rattle.listener_hub.proofs.readers.hits.Goals as goal

pub returns : goal.returns
returns c q =
    c.in_ok-push_all_hits.ensures q
    ∙ ap (λ (xs : List Rows). list_any (is_in q) xs || any_hit c.deref.result.now c.args.area.now q c.deref-2.result.now) c.new-hits.ensures.items
    ∙ ap (λ (xs : Registrations). any_hit xs c.args.area.now q c.deref-2.result.now) c.deref.ensures.value
    ∙ ap (λ (xs : List ℕ). any_hit c.args.slab.now.registrations.items c.args.area.now q xs) c.deref-2.ensures
    ∙ exact c.args.slab.now.registrations.items c.args.slab.now.ears c.args.slab.now.homes c.requires c.args.area.now (subst IsRectangle c.area.view_is c.area.invariant) c.in_ok-places.places.items c.in_ok-places.ensures q

use Rattle.std.proofs.Common.{◌≡◌, Some, List, sym, ap, subst, ◌∙◌}
use Rattle.std.specs.List.{list_any}
use Rattle.std.specs.Option.{option_copied}
use Rattle.calc_model.specs.Ears.{ReadArea}
use Rattle.calc_model.specs.Listeners.{ReachesArea}
use Rattle.listener_hub.specs.Hits.{hits_at, is_hit}
use Rattle.listener_hub.specs.Reaching.{GetStretch, IsStretch}
use Rattle.registration_slab.specs.Slab.{LiesInSheet, areas_of, at}
use Rattle.listener_hub.proofs.Chained.{chained}
use Rattle.listener_hub.proofs.Getting.{get_by}
use Rattle.listener_hub.proofs.reaching.push_stretches_at.Goals as goal

pub returns-in_ok-push_stretches-in-Some : goal.returns-in_ok-push_stretches-in-Some
returns-in_ok-push_stretches-in-Some c =
    let r = c.in-Some.registration.now in
    let area = c.args.area.now in
    let there : at c.args.registrations.now c.args.place ≡ Some r = sym c.registration_at.ensures ∙ ap option_copied c.in-Some.is in
    get_by (IsStretch r.run r.ears.items area) (ReachesArea (areas_of c.args.registrations.now) area) (λ q. list_any (is_hit r.run area q) r.ears.items) (hits_at (at c.args.registrations.now c.args.place) area)
    c.args.out.now.items c.push_stretches.new.out.items (λ q. ap (λ o. hits_at o area q) (sym there))
    (chained c.args.registrations.now c.requires.apart c.args.place r there (subst LiesInSheet there (c.requires.inside c.args.place)) area c.requires.valid)
    (subst (λ (es : List ReadArea). GetStretch r.run es area (λ q. list_any (is_hit r.run area q) es) c.args.out.now.items c.push_stretches.new.out.items) c.deref.ensures.value c.in_ok-push_stretches-in-Some.ensures)

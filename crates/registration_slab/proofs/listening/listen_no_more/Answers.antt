use Rattle.std.proofs.Common.{◌≡◌, ◌&&◌, ◌||◌, Bool, true, false, not, get_or, take, refl, sym, ap, ◌∙◌}
use Rattle.std.specs.Prelude.{◌==◌}
use Rattle.std.proofs.lemmas.List.Folds.{list_any_more}
use Rattle.calc_addr.specs.Places.{Rectangle}
use Rattle.calc_model.specs.Ears.{ReadArea}
use Rattle.area_listeners.specs.Pairs.{holds}
use Rattle.ears.specs.RunAreas.{hull, is_same_area}
use Rattle.registration_slab.specs.Slab.{is_heard}
use Rattle.registration_slab.proofs.listening.listen_no_more.Goals as goal

less : (o s a e : Bool) → ((o && not (s && a)) && not (s && e)) ≡ (o && not (s && (a || e)))
less false s a e = refl
less true false a e = refl
less true true true e = refl
less true true false e = refl

pub loop-ear-preserved : goal.loop-ear-preserved
loop-ear-preserved c x =
    let heard : ReadArea → Bool = λ e. is_same_area x.area (hull e c.args.steps) in
    let old : Bool = holds c.args.listeners.now x in
    let this : Bool = x.id == c.args.id in
    let before : Bool = is_heard (take c.loop-ear.ear-index c.args.ears.now) c.args.steps x.area in
    let item : heard c.ear-item.result ≡ heard (get_or c.args.ears.now c.loop-ear.ear-index c.ear-item.result) = ap heard c.ear-item.is in
    c.remove.ensures x
    ∙ ap (λ b. b && not (this && is_same_area x.area c.hull-area.result)) (c.loop-ear.invariant x)
    ∙ ap (λ (a : Rectangle). (old && not (this && before)) && not (this && is_same_area x.area a)) c.hull-area.ensures
    ∙ ap (λ b. (old && not (this && before)) && not (this && b)) item
    ∙ less old this before (heard (get_or c.args.ears.now c.loop-ear.ear-index c.ear-item.result))
    ∙ ap (λ b. old && not (this && b)) (sym (list_any_more heard c.args.ears.now c.loop-ear.ear-index c.ear-item.result c.loop-ear-test.true))

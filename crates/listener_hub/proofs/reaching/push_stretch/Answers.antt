use Rattle.std.proofs.Common.{◌≤◌, min, sym, ap, subst, ◌++◌, ◌∷◌, [], ◌∙◌}
use Rattle.std.proofs.lemmas.List.{get_or_default}
use Rattle.calc_addr.specs.Places.{Rows}
use Rattle.calc_model.specs.Ears.{ReadArea, area_at}
use Rattle.ears.specs.RunAreas.{meets}
use Rattle.listener_hub.proofs.Stretches.{stretched}
use Rattle.listener_hub.proofs.reaching.push_stretch.Goals as goal

pub returns-in_ok-push : goal.returns-in_ok-push
returns-in_ok-push c d =
    stretched c.args.run.now c.args.ears.now c.args.area.now c.args.at d c.requires.at c.steps_of-below.ensures.rows.in_order c.in-Some.steps
    (λ step le. c.in-Some.ensures step (subst (λ n. step ≤ n) (sym c.steps_of-below.ensures.steps) le) ∙ ap (λ (e : ReadArea). meets (area_at e step) c.args.area.now) (c.index-ears-at.is ∙ get_or_default c.args.ears.now c.args.at _ d c.requires.at))
    c.min-last.result (c.min-last.ensures ∙ ap (λ n. min c.in-Some.steps.last n) c.steps_of-below.ensures.steps) c.if-steps-last.true
    c.args.ways.now.down c.args.ways.now.up c.requires.down c.requires.up c.args.out.now.items c.push.new.self.items
    (c.in_ok-push.ensures.items ∙ ap (λ (r : Rows). c.args.out.now.items ++ r ∷ []) c.stretch.ensures)

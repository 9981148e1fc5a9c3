use Rattle.std.proofs.Common.{rules, ◌≡◌, ◌+◌, ◌-◌, ◌++◌, ◌∷◌, [], List, length, map, inr, refl, sym, ap, ◌∙◌}
use Rattle.calc_addr.specs.Places.{Rows}
use Rattle.calc_model.specs.Ears.{ReadArea}
use Rattle.ears.specs.RunAreas.{ear_below}
use Rattle.listener_hub.proofs.parting.push_part.Goals as goal

pub returns-in_ok-push-in-Some-clause-step : goal.returns-in_ok-push-in-Some-clause-step
returns-in_ok-push-in-Some-clause-step c =
    let r = c.args.registration.now in
    let from_is : c.len-from.result ≡ length c.args.ears.now.items = search rules in
    let to_is : c.len-to.result ≡ length c.push_ears_below.new.out.items = search rules in
    inr (record {
      registration = r;
      there = refl;
      rows = c.in-Some.rows;
      are = sym c.part_run.ensures ∙ c.in-Some.is;
      ears_are = c.in_ok-push_ears_below-in-Some.ensures.ok
          ∙ ap (λ n. c.args.ears.now.items ++ map (λ e. ear_below e n) c.deref.result.now) (c.steps_before-below.ensures ∙ ap (λ (x : Rows). x.first - r.run.first) c.rows.view_is)
          ∙ ap (λ (xs : List ReadArea). c.args.ears.now.items ++ map (λ e. ear_below e (c.in-Some.rows.first - r.run.first)) xs) c.deref.ensures.value;
      part = c.in_ok-push-in-Some.ensures.items
          ∙ ap (λ n. c.args.parts.now.items ++ record { run = c.in-Some.rows; from = n; to = c.len-to.result } ∷ []) from_is
          ∙ ap (λ n. c.args.parts.now.items ++ record { run = c.in-Some.rows; from = length c.args.ears.now.items; to = n } ∷ []) to_is;
      behind = ap (λ (x : Rows). x.last + 1) c.rows-in-Some.view_is;
    })

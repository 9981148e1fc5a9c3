use Rattle.std.proofs.Common.{List, Some, cond, ap, ◌∙◌}
use Rattle.calc_addr.specs.Places.{Rows}
use Rattle.calc_model.specs.Ears.{ReadArea}
use Rattle.registration_slab.specs.Slab.{areas_at, areas_of, is_in}
use Rattle.listener_hub.proofs.hub.attach_in.Goals as goal

pub returns-clause-areas : goal.returns-clause-areas
returns-clause-areas c q =
    c.in_ok-put_joined.ensures.areas q
    ∙ ap (λ (r : Rows). cond (is_in r q) (Some (areas_at c.registration_of.result.ears.items r.first q.row)) (areas_of c.args.slab.now.registrations.items q)) c.registration_of.ensures.run
    ∙ ap (λ (es : List ReadArea). cond (is_in c.args.run.now q) (Some (areas_at es c.args.run.now.first q.row)) (areas_of c.args.slab.now.registrations.items q)) (c.registration_of.ensures.ears ∙ c.in_ok-ears.ensures.items)

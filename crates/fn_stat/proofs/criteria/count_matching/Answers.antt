use Rattle.std.proofs.Common.{ap, ◌∙◌}
use Rattle.std.specs.List.{count_by}
use Rattle.calc_model.specs.Criteria.{matches}
use Rattle.calc_model.specs.Meanings.{values_in}
use Rattle.calc_model.specs.Texts.{counted}
use Rattle.fn_stat.proofs.criteria.count_matching.Goals as goal

pub returns : goal.returns
returns g c =
    c.counted.ensures ∙ ap counted (c.count_area.ensures.count ∙ ap (λ k. count_by (matches k) (values_in (g.V.Values.values c.args.values.now) c.args.area)) c.criterion_of-criterion.ensures)

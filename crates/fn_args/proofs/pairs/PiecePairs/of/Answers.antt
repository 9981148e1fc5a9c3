use Rattle.std.proofs.Common.{ap, map, Some, ◌∙◌}
use Rattle.std.specs.List.{zip}
use Rattle.calc_addr.specs.Places.{places_from}
use Rattle.calc_model.specs.Meanings.{values_in}
use Rattle.fn_args.proofs.Cutting.{all_values}
use Rattle.fn_args.proofs.pairs.PiecePairs.of.Goals as goal

pub returns : goal.returns
returns g c =
    let v = g.V.Values.values c.args.values.now in
    ap (λ xs. zip xs (map v (places_from c.args.second (Some c.corner-2.result)))) (all_values v c.args.first c.corner.result c.corner.ensures.first c.corner.ensures.in_area)
    ∙ ap (zip (values_in v c.args.first)) (all_values v c.args.second c.corner-2.result c.corner-2.ensures.first c.corner-2.ensures.in_area)

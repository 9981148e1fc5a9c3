use Rattle.fn_args.proofs.Cutting.{all_values}
use Rattle.fn_args.proofs.pieces.Pieces.of.Goals as goal

pub returns : goal.returns
returns g c =
    all_values (g.V.Values.values c.args.values.now) c.args.area c.corner.result c.corner.ensures.first c.corner.ensures.in_area

use Rattle.std.proofs.Common.{rules}
use Rattle.lane_kernels.proofs.Extremes.{least_is}
use Rattle.lane_kernels.proofs.folds.min.Goals as goal

pub returns : goal.returns
returns c =
    least_is c.args.items.now c.min.result (search rules)

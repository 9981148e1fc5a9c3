use Rattle.std.proofs.Common.{rules}
use Rattle.lane_kernels.proofs.Extremes.{greatest_is}
use Rattle.lane_kernels.proofs.folds.max.Goals as goal

pub returns : goal.returns
returns c =
    greatest_is c.args.items.now c.max.result (search rules)

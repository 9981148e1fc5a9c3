use Rattle.std.proofs.Common.{pos, arith}
use Rattle.std.proofs.lemmas.Slice.Zip.{get_or-zip, length-zip}
use Rattle.std.specs.List.{zip}
use Rattle.lane_kernels.specs.Comparisons.{chosen}
use Rattle.lane_kernels.proofs.Written.{lanes_written}
use Rattle.lane_kernels.proofs.choices.select.Goals as goal

pub returns : goal.returns
returns c =
    let long = length-zip c.args.a.now c.args.b.now in
    lanes_written chosen c.args.mask.now (zip c.args.a.now c.args.b.now) (pos 0) (pos 0, pos 0) c.loop-i.out (omega arith) (omega arith)
    (λ k inside. rw (get_or-zip c.args.a.now c.args.b.now k (pos 0, pos 0) (omega arith) (omega arith)) (c.loop-i.invariant k (omega arith)))

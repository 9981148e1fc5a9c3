use Rattle.std.proofs.Common.{subst}
use Rattle.std.specs.List.{All}
use Rattle.std.proofs.lemmas.List.{take_all}
use Rattle.dirty_spread.specs.Levels.{IsCircular}
use Rattle.dirty_spread.proofs.Closings.{closed_more}
use Rattle.dirty_spread.proofs.leveling.close.Goals as goal

pub loop-frame-preserved : goal.loop-frame-preserved
loop-frame-preserved c =
    let more = closed_more c.args.path.now c.args.levels.now c.loop-frame.levels c.loop-frame.frame-index (record { place = 0; cursor = record { area = 0; next = 0; greatest = 0 } }) c.loop-frame-test.true c.requires c.loop-frame.invariant.closed c.loop-frame.invariant.all in
    record { closed = more.0; all = more.1 }

pub returns-clause-all : goal.returns-clause-all
returns-clause-all c = subst (λ fs. All (IsCircular c.loop-frame.levels) fs) (take_all c.loop-frame.frame-index c.args.path.now c.loop-frame-test.false) c.loop-frame.invariant.all

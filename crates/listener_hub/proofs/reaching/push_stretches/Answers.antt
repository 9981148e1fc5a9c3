use Rattle.listener_hub.specs.Hits.{is_hit}
use Rattle.listener_hub.specs.Reaching.{IsStretch}
use Rattle.listener_hub.proofs.Getting.{one_more}
use Rattle.listener_hub.proofs.Stretches.{no_ear}
use Rattle.listener_hub.proofs.reaching.push_stretches.Goals as goal

pub loop-at-preserved : goal.loop-at-preserved
loop-at-preserved c =
    one_more (IsStretch c.args.run.now c.args.ears.now c.args.area.now) (is_hit c.args.run.now c.args.area.now) c.args.ears.now c.loop-at.at no_ear
    c.args.out.now.items c.loop-at.out.items c.push_stretch.new.out.items c.loop-at-test.true c.loop-at.invariant (c.in_ok-push_stretch.ensures no_ear)

use Rattle.std.proofs.Common.{arith}
use Rattle.area_listeners.specs.Pairs.{has_id}
use Rattle.area_listeners.proofs.Steps.{all_classes, next_class, no_class, used_below}
use Rattle.area_listeners.proofs.gathering.push_all.Goals as goal

pub loop-class-init : goal.loop-class-init
loop-class-init c i = no_class c.args.area.now i c.args.spots.now.keys (has_id c.args.out.now.items i)

pub loop-class-preserved : goal.loop-class-preserved
loop-class-preserved c i =
    next_class c.args.area.now i c.args.spots.now.keys c.loop-class.class (has_id c.args.out.now.items i) (has_id c.loop-class.out.items i) _ (c.in_ok-push_if_used.ensures i) (c.loop-class.invariant i)

pub returns : goal.returns
returns c i =
    all_classes c.args.area.now i c.args.spots.now.keys c.args.used.now c.requires.in_use c.loop-class.class
    (λ k. used_below c.args.area.now i c.args.spots.now.keys c.args.used.now c.loop-class.class k (omega (arith, c.requires.classes, c.loop-class-test.false))) (has_id c.args.out.now.items i) _ (c.loop-class.invariant i)

use Rattle.area_listeners.specs.Pairs.{has_id}
use Rattle.area_listeners.proofs.Steps.{unused}
use Rattle.area_listeners.proofs.gathering.push_if_used.Goals as goal

pub returns-else-used-class : goal.returns-else-used-class
returns-else-used-class c i = unused c.args.area.now i c.args.spots.now.keys c.args.used.now c.requires.in_use c.args.class c.if-used-class.false (has_id c.args.out.now.items i)

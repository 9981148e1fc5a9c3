use Rattle.std.proofs.Common.{◌||◌, List, rules, ap, ◌∙◌}
use Rattle.area_listeners.specs.declared.listener.Listener.{Listener}
use Rattle.area_listeners.specs.Pairs.{holds, is_same}
use Rattle.area_listeners.specs.Spots.{spot_of}
use Rattle.area_listeners.proofs.Kept.{held_with, kept_with}
use Rattle.area_listeners.proofs.listeners.AreaListeners.add.Goals as goal

pub invariant_of-self-2 : goal.invariant_of-self-2
invariant_of-self-2 c =
    kept_with c.self.inside.spots.keys c.self.inside.used c.self.invariant c.args.listener.now c.spot_of-spot.result c.spot_of-spot.ensures.spot
    c.insert.new.self.keys c.in_ok-insert.ensures.keys c.spot_of-spot.ensures.valid (search rules)

pub returns-clause-ok : goal.returns-clause-ok
returns-clause-ok c l =
    held_with c.self.inside.spots.keys c.self.inside.used c.self.invariant c.args.listener.now c.spot_of-spot.result c.spot_of-spot.ensures.spot
    c.insert.new.self.keys (invariant_of-self-2 c).0 l (c.in_ok-insert.ensures.updates.0 (spot_of l))
    ∙ ap (λ (pairs : List Listener). holds pairs l || is_same l c.args.listener.now) c.self.view_is

use Rattle.std.proofs.Common.{◌&&◌, not, List, ap, ◌∙◌}
use Rattle.area_listeners.specs.declared.listener.Listener.{Listener}
use Rattle.area_listeners.specs.Pairs.{holds, is_same}
use Rattle.area_listeners.specs.Spots.{spot_of}
use Rattle.area_listeners.proofs.Kept.{held_without, kept_without}
use Rattle.area_listeners.proofs.listeners.AreaListeners.remove.Goals as goal

pub invariant_of-self : goal.invariant_of-self
invariant_of-self c =
    kept_without c.self.inside.spots.keys c.self.inside.used c.self.invariant c.args.listener.now c.spot_of.result c.spot_of.ensures.spot c.remove.new.self.keys c.remove.ensures.keys

pub returns : goal.returns
returns c l =
    held_without c.self.inside.spots.keys c.self.inside.used c.self.invariant c.args.listener.now c.spot_of.result c.spot_of.ensures.spot
    c.remove.new.self.keys (invariant_of-self c).0 l (c.remove.ensures.updates.0 (spot_of l))
    ∙ ap (λ (pairs : List Listener). holds pairs l && not (is_same l c.args.listener.now)) c.self.view_is

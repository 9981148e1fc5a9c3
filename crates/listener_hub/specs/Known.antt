-- A hub, as contracts see it.
use Rattle.std.specs.Prelude.{Bool}
use Rattle.area_listeners.specs.Pairs.{Pairs}
use Rattle.registration_slab.specs.Slab.{Registrations}

pub record Known : Type 0 where
  pub registrations : Registrations
  pub listeners : Pairs
  pub spent : Bool

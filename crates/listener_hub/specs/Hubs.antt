-- What the formula cells of a hub read.
use Rattle.std.specs.Prelude.{Bool, not}
use Rattle.calc_model.specs.Listeners.{ReadAreas}
use Rattle.listener_hub.specs.Known.{Known}
use Rattle.registration_slab.specs.Slab.{areas_of}

-- the areas that each formula cell reads; no other cell has a list
abbrev pub areas_read : Known → ReadAreas
areas_read hub = areas_of hub.registrations

-- whether it may be asked
abbrev pub is_ready : Known → Bool
is_ready hub = not hub.spent

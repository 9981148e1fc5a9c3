-- Runs that go on where others end.
use Rattle.std.specs.Prelude.{◌≡◌, true, ◌+◌, ◌-◌, ◌∷◌, map, Option, None, Some}
use Rattle.calc_addr.specs.Places.{Place}
use Rattle.ears.specs.RunAreas.{ear_below}
use Rattle.registration_slab.specs.declared.registration.Registration.{Registration}
use Rattle.registration_slab.specs.Slab.{LiesInSheet, Registrations, areas_of, is_in}

-- The rows of the lower registration begin behind those of the upper one, and read what those would read there.
pub record GoesOn (upper lower : Registration) : Type 0 where
  pub sheet : upper.run.sheet ≡ lower.run.sheet
  pub col : upper.run.col ≡ lower.run.col
  pub next : lower.run.first ≡ upper.run.last + 1
  pub ears : lower.ears.items ≡ map (λ e. ear_below e (lower.run.first - upper.run.first)) upper.ears.items

abbrev pub IsAboveAt : Option Registration → Registration → Type 0
IsAboveAt None lower = ⊥
IsAboveAt (Some upper) lower = GoesOn upper lower

abbrev pub IsBelowAt : Option Registration → Registration → Type 0
IsBelowAt None upper = ⊥
IsBelowAt (Some lower) upper = GoesOn upper lower

-- A registration that wasn't there took in one that was: with it, cells read what they would have read.
pub record IsJoined (old new : Registrations) (registration joined : Registration) : Type 0 where
  pub same : (q : Place) → areas_of (Some joined ∷ new) q ≡ areas_of (Some registration ∷ old) q
  pub absent : (q : Place) → is_in joined.run q ≡ true → areas_of new q ≡ None
  pub inside : LiesInSheet (Some joined)

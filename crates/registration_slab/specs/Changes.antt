-- What becomes of registrations when a run is registered.
use Rattle.std.specs.Prelude.{◌≡◌, ℕ, ◌==◌, if◌then◌else◌, List, None, Some}
use Rattle.calc_addr.specs.Places.{Rows}
use Rattle.calc_model.specs.Ears.{ReadArea}
use Rattle.registration_slab.specs.declared.registration.Registration.{Registration}
use Rattle.registration_slab.specs.declared.slab.Slab.{Slab}
use Rattle.registration_slab.specs.Slab.{IsSlab, Registrations, at}

abbrev pub IsSlabOf : Slab → Type 0
IsSlabOf slab = IsSlab slab.registrations.items slab.ears slab.homes

-- The run is registered at a place that had no registration.
pub record IsPut (old new : Registrations) (run : Rows) (ears : List ReadArea) : Type 0 where
  pub place : ℕ
  pub registration : Registration
  pub was : at old place ≡ None
  pub is : (i : ℕ) → at new i ≡ (if i == place then Some registration else at old i)
  pub run_is : registration.run ≡ run
  pub ears_are : registration.ears.items ≡ ears

-- The parts of a run, one registration after the other.
use Rattle.std.specs.Prelude.{◌≡◌, ◌≤◌, ◌<◌, ◌⊎◌, ℕ, Bool, true, ◌+◌, ◌-◌, ◌&&◌, ◌==◌, max, min, nat_le, if◌then◌else◌, List, [], ◌∷◌, ◌++◌, length, map, Option, None, Some}
use Rattle.std.specs.List.{All, AllPairs, list_any}
use Rattle.calc_addr.specs.Places.{Place, Rows}
use Rattle.calc_model.specs.declared.dependents.Part.{Part}
use Rattle.calc_model.specs.Ears.{ReadArea}
use Rattle.calc_model.specs.Listeners.{IsAbove, IsHeard}
use Rattle.ears.specs.RunAreas.{ear_below}
use Rattle.area_listeners.specs.Pairs.{has_id}
use Rattle.registration_slab.specs.declared.registration.Registration.{Registration}
use Rattle.registration_slab.specs.Slab.{Registrations, areas_of, at, has_cell, is_in}

abbrev pub first_row : Option Registration → ℕ
first_row None = 0
first_row (Some r) = r.run.first

-- the rows of the registered run in the other one, from a row on, if there are any
abbrev pub part_run : Rows → Rows → ℕ → Option Rows
part_run registered run next =
    if ((registered.sheet == run.sheet) && (registered.col == run.col)) && nat_le (max registered.first next) (min registered.last run.last)
    then Some (record { sheet = run.sheet; col = run.col; first = max registered.first next; last = min registered.last run.last })
    else None

abbrev pub next_part : Option Registration → Rows → ℕ → Option Rows
next_part None run next = None
next_part (Some r) run next = part_run r.run run next

-- A registration has no rows in the run from the next one on.
pub record Skips (o : Option Registration) (run : Rows) (next : ℕ) (parts new_parts : List Part) (ears new_ears : List ReadArea) (after : ℕ) : Type 0 where
  pub none : next_part o run next ≡ None
  pub parts_stay : new_parts ≡ parts
  pub ears_stay : new_ears ≡ ears
  pub same : after ≡ next

-- It has some, which are a part.
pub record Adds (o : Option Registration) (run : Rows) (next : ℕ) (parts new_parts : List Part) (ears new_ears : List ReadArea) (after : ℕ) : Type 0 where
  pub registration : Registration
  pub there : o ≡ Some registration
  pub rows : Rows
  pub are : part_run registration.run run next ≡ Some rows
  pub ears_are : new_ears ≡ ears ++ map (λ e. ear_below e (rows.first - registration.run.first)) registration.ears.items
  pub part : new_parts ≡ parts ++ record { run = rows; from = length ears; to = length new_ears } ∷ []
  pub behind : after ≡ rows.last + 1

abbrev pub IsStep : Option Registration → Rows → ℕ → List Part → List Part → List ReadArea → List ReadArea → ℕ → Type 0
IsStep o run next parts new_parts ears new_ears after = Skips o run next parts new_parts ears new_ears after ⊎ Adds o run next parts new_parts ears new_ears after

-- whether a part has the row
abbrev pub has_row : ℕ → Part → Bool
has_row row part = nat_le part.run.first row && nat_le row part.run.last

-- The parts by the registrations at some places, in front of a row.
pub record IsParting (rs : Registrations) (run : Rows) (done : List ℕ) (old now : List Part) (old_ears ears : List ReadArea) (next : ℕ) : Type 0 where
  pub parts : List Part
  pub is : now ≡ old ++ parts
  pub extra : List ReadArea
  pub ears_are : ears ≡ old_ears ++ extra
  pub rising : AllPairs IsAbove parts
  pub above : All (λ p. p.run.last < next) parts
  pub heard : All (IsHeard (areas_of rs) run ears) parts
  pub from : run.first ≤ next
  pub held : (q : Place) → is_in run q ≡ true → ((i : ℕ) → has_id done i ≡ true → first_row (at rs i) ≤ q.row) → q.row < next → list_any (has_row q.row) parts ≡ true
  pub each : (q : Place) → is_in run q ≡ true → list_any (λ i. has_cell (at rs i) q) done ≡ true → list_any (has_row q.row) parts ≡ true

abbrev pub IsParted : Registrations → Rows → List ℕ → List Part → List Part → List ReadArea → List ReadArea → Type 0
IsParted rs run done old now old_ears ears = (next : ℕ) × IsParting rs run done old now old_ears ears next

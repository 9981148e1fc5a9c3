-- Which rows of registrations read a cell of an area.
use Rattle.std.specs.Prelude.{ℕ, Bool, false, ◌-◌, ◌&&◌, List, [], Option, None, Some}
use Rattle.std.specs.List.{list_any}
use Rattle.calc_addr.specs.Places.{Place, Rectangle, Rows}
use Rattle.calc_model.specs.Ears.{ReadArea, area_at}
use Rattle.ears.specs.RunAreas.{meets}
use Rattle.registration_slab.specs.declared.registration.Registration.{Registration}
use Rattle.registration_slab.specs.Cuts.{areas_in}
use Rattle.registration_slab.specs.Slab.{Registrations, at, is_in}

-- the cell is one of the run's, and reads a cell of the area by that ear
abbrev pub is_hit : Rows → Rectangle → Place → ReadArea → Bool
is_hit run area q ear = is_in run q && meets (area_at ear (q.row - run.first)) area

abbrev pub hits_at : Option Registration → Rectangle → Place → Bool
hits_at None area q = false
hits_at (Some r) area q = list_any (is_hit r.run area q) r.ears.items

-- the cell reads a cell of the area by a registration at one of the places
abbrev pub any_hit : Registrations → Rectangle → Place → List ℕ → Bool
any_hit rs area q places = list_any (λ i. hits_at (at rs i) area q) places

-- what a cell of the registration reads
abbrev pub registered_areas : Option Registration → Place → List Rectangle
registered_areas None q = []
registered_areas (Some r) q = areas_in r q

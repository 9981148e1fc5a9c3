-- Registrations by place, what their rows read, and who listens to it.
use Rattle.std.specs.Prelude.{◌≡◌, ℕ, Bool, true, false, ◌-◌, ◌&&◌, ◌==◌, nat_le, if◌then◌else◌, List, [], ◌∷◌, map, slice_index_or, Option, None, Some}
use Rattle.std.specs.List.{All, list_any}
use Rattle.calc_addr.specs.Places.{IsRows, Place, Rectangle, Rows}
use Rattle.calc_model.specs.Ears.{ReadArea, area_at}
use Rattle.calc_model.specs.Listeners.{ReadAreas}
use Rattle.ears.specs.RunAreas.{LieInSheet, hull, is_same_area}
use Rattle.area_listeners.specs.declared.listener.Listener.{Listener}
use Rattle.area_listeners.specs.Pairs.{Pairs, holds}
use Rattle.registration_slab.specs.declared.registration.Registration.{Registration}

abbrev pub Registrations : Type 0
Registrations = List (Option Registration)

-- the registration at a place, if there is one
abbrev pub at : Registrations → ℕ → Option Registration
at rs i = slice_index_or rs i None

abbrev pub area_of : Rows → Rectangle
area_of run = record { sheet = run.sheet; first_col = run.col; last_col = run.col; first_row = run.first; last_row = run.last }

-- how far the last row lies below the first one
abbrev pub steps_of : Rows → ℕ
steps_of run = run.last - run.first

-- whether the cell is one of the run's
abbrev pub is_in : Rows → Place → Bool
is_in run q = ((q.sheet == run.sheet) && (q.col == run.col)) && (nat_le run.first q.row && nat_le q.row run.last)

abbrev pub has_cell : Option Registration → Place → Bool
has_cell None q = false
has_cell (Some r) q = is_in r.run q

-- what a row reads, by the run's first row and the ears there
abbrev pub areas_at : List ReadArea → ℕ → ℕ → List Rectangle
areas_at ears first row = map (λ e. area_at e (row - first)) ears

-- what each cell reads that is in a registered run
abbrev pub areas_of : Registrations → ReadAreas
areas_of [] q = None
areas_of (None ∷ rs) q = areas_of rs q
areas_of (Some r ∷ rs) q = if is_in r.run q then Some (areas_at r.ears.items r.run.first q.row) else areas_of rs q

-- the area is what the rows of a run read by one of their references
abbrev pub is_heard : List ReadArea → ℕ → Rectangle → Bool
is_heard ears steps area = list_any (λ e. is_same_area area (hull e steps)) ears

abbrev pub hears : Option Registration → Rectangle → Bool
hears None area = false
hears (Some r) area = is_heard r.ears.items (steps_of r.run) area

abbrev pub stands : Option Registration → Rectangle → Bool
stands None area = false
stands (Some r) area = is_same_area area (area_of r.run)

abbrev pub LiesInSheet : Option Registration → Type 0
LiesInSheet None = Unit {0}
LiesInSheet (Some r) = IsRows r.run × All (LieInSheet (steps_of r.run)) r.ears.items

-- no two registrations have a cell in common
abbrev pub AreApart : Registrations → Type 0
AreApart rs = (i j : ℕ) (q : Place) → has_cell (at rs i) q ≡ true → has_cell (at rs j) q ≡ true → i ≡ j

-- Who listens to what the registrations read and to where they stand, which is apart.
pub record IsSlab (rs : Registrations) (ears homes : Pairs) : Type 0 where
  pub heard : (l : Listener) → holds ears l ≡ hears (at rs l.id) l.area
  pub homed : (l : Listener) → holds homes l ≡ stands (at rs l.id) l.area
  pub apart : AreApart rs
  pub inside : (i : ℕ) → LiesInSheet (at rs i)

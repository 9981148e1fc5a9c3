-- Rows that are cut out of registrations.
use Rattle.std.specs.Prelude.{◌≡◌, ℕ, Bool, true, false, ◌+◌, ◌&&◌, ◌==◌, nat_le, nat_lt, if◌then◌else◌, List, Option, None, Some}
use Rattle.calc_addr.specs.Places.{Place, Rectangle, Rows}
use Rattle.area_listeners.specs.Pairs.{has_id}
use Rattle.registration_slab.specs.declared.cuts.Cut.{Cut}
use Rattle.registration_slab.specs.declared.registration.Registration.{Registration}
use Rattle.registration_slab.specs.Slab.{Registrations, areas_at, areas_of, at, has_cell}

-- the cell is in the run's column, from the first row to before the end
abbrev pub is_part : Rows → ℕ → ℕ → Place → Bool
is_part run first end q = ((q.sheet == run.sheet) && (q.col == run.col)) && (nat_le first q.row && nat_lt q.row end)

abbrev pub is_cut : Cut → Place → Bool
is_cut cut q = ((q.sheet == cut.sheet) && (q.col == cut.col)) && (nat_le cut.first q.row && nat_lt q.row cut.end)

-- all rows of a run
abbrev pub cut_of : Rows → Cut
cut_of run = record { sheet = run.sheet; col = run.col; first = run.first; end = run.last + 1 }

-- what a cell of the registration reads
abbrev pub areas_in : Registration → Place → List Rectangle
areas_in r q = areas_at r.ears.items r.run.first q.row

-- the cut is in the run's column, and has rows of it or lies between two of them
abbrev pub is_touched : Rows → Cut → Bool
is_touched run cut = ((run.sheet == cut.sheet) && (run.col == cut.col)) && (nat_lt run.first cut.end && nat_le cut.first run.last)

abbrev pub is_touched_at : Option Registration → Cut → Bool
is_touched_at None cut = false
is_touched_at (Some r) cut = is_touched r.run cut

-- The cut's cells of the registration at the place read nothing any more, and no new registration has a cell of the cut.
pub record IsTrimmed (old new : Registrations) (place : ℕ) (cut : Cut) : Type 0 where
  pub areas : (q : Place) → areas_of new q ≡ (if is_cut cut q && has_cell (at old place) q then None else areas_of old q)
  pub left : (j : ℕ) (q : Place) → is_cut cut q ≡ true → has_cell (at new j) q ≡ true → (has_cell (at old j) q ≡ true) × (j ≡ place → ⊥)

-- each registration with a cell of the cut is at one of the places
abbrev pub AreCandidates : Registrations → Cut → List ℕ → Type 0
AreCandidates rs cut places = (j : ℕ) (q : Place) → is_cut cut q ≡ true → has_cell (at rs j) q ≡ true → has_id places j ≡ true

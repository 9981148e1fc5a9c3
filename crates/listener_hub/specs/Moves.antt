-- What becomes of the cells that read, and of what they read, when rows of a sheet are inserted or deleted.
use Rattle.std.specs.Prelude.{◌≡◌, ◌≤◌, ◌<◌, ℕ, true, List, Option, None, Some, option_map}
use Rattle.std.specs.Option.{ForSome}
use Rattle.calc_addr.specs.declared.cell.TheConstants.{LAST_ROW}
use Rattle.calc_addr.specs.Places.{Place, Rows}
use Rattle.calc_model.specs.Ears.{ReadArea}
use Rattle.calc_model.specs.Listeners.{ReadAreas}
use Rattle.ears.specs.declared.row_edit.Change.TheVariants.{Insertion, Deletion}
use Rattle.ears.specs.declared.row_edit.RowEdit.{RowEdit}
use Rattle.ears.specs.RowEdits.{areas_after, place_after}
use Rattle.registration_slab.specs.declared.registration.Registration.{Registration}
use Rattle.registration_slab.specs.Cuts.{areas_in, is_part}
use Rattle.registration_slab.specs.Slab.{areas_at, is_in}

-- Each cell that isn't deleted reads, where it goes, what becomes of its areas, and no other cell reads anything.
pub record IsMoved (edit : RowEdit) (old new : ReadAreas) : Type 0 where
  pub here : (q d : Place) → place_after edit q ≡ Some d → new d ≡ option_map (areas_after edit) (old q)
  pub elsewhere : (d : Place) → ((q : Place) → place_after edit q ≡ Some d → ⊥) → new d ≡ None

-- no cell of the run is pushed past the last row
abbrev pub StaysInSheet : RowEdit → Rows → Type 0
StaysInSheet edit run = (q : Place) → is_in run q ≡ true → ForSome (place_after edit q) (λ d. d.row ≤ LAST_ROW)

-- Each cell of the piece that isn't deleted reads, where it goes, what becomes of its areas, and other cells read what
-- they did.
pub record IsPieceMoved (edit : RowEdit) (piece : Rows) (ears : List ReadArea) (old new : ReadAreas) : Type 0 where
  pub here : (q d : Place) → is_in piece q ≡ true → place_after edit q ≡ Some d → new d ≡ Some (areas_after edit (areas_at ears piece.first q.row))
  pub elsewhere : (d : Place) → ((q : Place) → is_in piece q ≡ true → place_after edit q ≡ Some d → ⊥) → new d ≡ old d

-- The same of the cells of a registration from a row to before another.
pub record IsPartMoved (edit : RowEdit) (r : Registration) (first end : ℕ) (old new : ReadAreas) : Type 0 where
  pub here : (q d : Place) → is_part r.run first end q ≡ true → place_after edit q ≡ Some d → new d ≡ Some (areas_after edit (areas_in r q))
  pub elsewhere : (d : Place) → ((q : Place) → is_part r.run first end q ≡ true → place_after edit q ≡ Some d → ⊥) → new d ≡ old d

abbrev pub StaysAt : RowEdit → Option Registration → Type 0
StaysAt edit None = Unit {0}
StaysAt edit (Some r) = StaysInSheet edit r.run

-- no cell that reads is pushed past the last row
abbrev pub KeepsAll : RowEdit → ReadAreas → Type 0
KeepsAll edit read = (q d : Place) → place_after edit q ≡ Some d → LAST_ROW < d.row → read q ≡ None

abbrev pub insertion : ℕ → ℕ → ℕ → RowEdit
insertion sheet place count = record { change = Insertion; sheet = sheet; place = place; count = count }

abbrev pub deletion : ℕ → ℕ → ℕ → RowEdit
deletion sheet place count = record { change = Deletion; sheet = sheet; place = place; count = count }

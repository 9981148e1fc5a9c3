-- Rows that reach an area through others of their run.
use Rattle.std.specs.Prelude.{◌≡◌, ◌≤◌, ◌⊎◌, ℕ, Bool, true, ◌+◌, ◌||◌, if◌then◌else◌, List}
use Rattle.std.specs.List.{list_any}
use Rattle.calc_addr.specs.Places.{Place, Rectangle, Rows}
use Rattle.calc_model.specs.Ears.{ReadArea}
use Rattle.calc_model.specs.Listeners.{ReachesArea, ReadAreas}
use Rattle.calc_model.specs.Touched.{CellSet}
use Rattle.ears.specs.Chains.{reads_above, reads_below}
use Rattle.run_unions.specs.Unions as unions
use Rattle.listener_hub.specs.Hits.{is_hit}
use Rattle.registration_slab.specs.Slab.{is_in}

-- A row of the cell's run reads a cell of the area, and each row from it to the cell reads the one before.
pub record IsStretch (run : Rows) (ears : List ReadArea) (area : Rectangle) (q : Place) : Type 0 where
  pub row : ℕ
  pub hits : list_any (is_hit run area (record q { row = row })) ears ≡ true
  pub here : is_in run q ≡ true
  pub way : (row ≡ q.row) ⊎ (((list_any (reads_above run) ears ≡ true) × (row ≤ q.row)) ⊎ ((list_any (reads_below run) ears ≡ true) × (q.row ≤ row)))

-- rows of a run, with those below them or above them that they reach
abbrev pub stretch : Rows → Bool → Bool → ℕ → ℕ → Rows
stretch run down up first last = record run {
  first = if up then run.first else run.first + first;
  last = if down then run.last else run.first + last;
}

-- The runs got all cells of a set, and otherwise cells of that kind alone.
pub record Get (set : CellSet) (Reach : Place → Type 0) (old new : List Rows) : Type 0 where
  pub all : (q : Place) → (list_any (unions.is_in q) old || set q) ≡ true → list_any (unions.is_in q) new ≡ true
  pub only : (q : Place) → list_any (unions.is_in q) new ≡ true → (list_any (unions.is_in q) old ≡ true) ⊎ Reach q

-- those of rows that reach the area through others of their run
abbrev pub GetStretch : Rows → List ReadArea → Rectangle → CellSet → List Rows → List Rows → Type 0
GetStretch run ears area set old new = Get set (IsStretch run ears area) old new

-- those of cells that reach the area
abbrev pub GetReached : ReadAreas → Rectangle → CellSet → List Rows → List Rows → Type 0
GetReached read area set old new = Get set (ReachesArea read area) old new

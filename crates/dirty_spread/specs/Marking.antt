-- Marks of formula cells, by their places in the list of all, and runs of the cells that were marked.
use Rattle.std.specs.Prelude.{◌≡◌, ◌≤◌, ◌<◌, ◌⊎◌, ℕ, ◌+◌, ◌-◌, ◌&&◌, ◌||◌, Bool, true, false, not, nat_le, nat_lt, List, ◌++◌, length, take, slice_index_or, Contains}
use Rattle.std.specs.List.{count_by, list_any}
use Rattle.calc_addr.specs.Places.{Place, Rectangle, Rows, covers}
use Rattle.calc_model.specs.Listeners.{ReadAreas, listed, reads_one_of}
use Rattle.run_unions.specs.Unions.{is_in}
use Rattle.dirty_spread.specs.Spreading.{IsStale}

-- the cell is one of the runs'
abbrev pub is_in_any : Place → List Rows → Bool
is_in_any q runs = list_any (is_in q) runs

-- the cell lies in one of the areas
abbrev pub is_touched : Place → List Rectangle → Bool
is_touched q areas = list_any (λ area. covers area q) areas

-- whether the place is marked
abbrev pub has_mark : List Bool → ℕ → Bool
has_mark marks i = slice_index_or marks i false

-- how many places aren't marked
abbrev pub fresh : List Bool → ℕ
fresh marks = count_by not marks

-- The cell stands at a place that is marked.
pub record IsMarked (cells : List Place) (marks : List Bool) (q : Place) : Type 0 where
  pub place : ℕ
  pub within : place < length cells
  pub here : slice_index_or cells place q ≡ q
  pub marked : has_mark marks place ≡ true

-- The places from one to before another are marked, which weren't, and no others.
pub record IsFront (old new : List Bool) (from to : ℕ) : Type 0 where
  pub size : length new ≡ length old
  pub each : (i : ℕ) → has_mark new i ≡ (has_mark old i || (nat_le from i && nat_lt i to))
  pub was : (i : ℕ) → from ≤ i → i < to → has_mark old i ≡ false
  pub room : fresh new + (to - from) ≡ fresh old

-- the first rows of a run
abbrev pub front_of : Rows → ℕ → Place → Bool
front_of run count q = is_in q run && nat_lt q.row (run.first + count)

-- The places of the first rows of a run, from a place on, are marked, and runs of those that weren't are appended.
pub record MarksFront (run : Rows) (from count : ℕ) (old new : List Bool) (before after : List Rows) : Type 0 where
  pub size : length new ≡ length old
  pub each : (i : ℕ) → has_mark new i ≡ (has_mark old i || (nat_le from i && nat_lt i (from + count)))
  pub items : List Rows
  pub grown : after ≡ before ++ items
  pub inside : (q : Place) → is_in_any q items ≡ true → is_in q run ≡ true
  pub found : (k : ℕ) → k < count → has_mark old (from + k) ≡ false → is_in_any (record { sheet = run.sheet; col = run.col; row = run.first + k }) items ≡ true
  pub room : length items + fresh new ≤ fresh old

-- All wanted cells are marked, and runs of those that weren't are appended, of allowed cells alone.
pub record Marks (cells : List Place) (Wanted Allowed : Place → Type 0) (old new : List Bool) (before after : List Rows) : Type 0 where
  pub size : length new ≡ length old
  pub kept : (q : Place) → IsMarked cells old q → IsMarked cells new q
  pub wanted : (q : Place) → Wanted q → IsMarked cells new q
  pub items : List Rows
  pub grown : after ≡ before ++ items
  pub queued : (q : Place) → IsMarked cells new q → IsMarked cells old q ⊎ (is_in_any q items ≡ true)
  pub inside : (q : Place) → is_in_any q items ≡ true → Allowed q
  pub room : length items + fresh new ≤ fresh old

-- a formula cell of an area
abbrev pub IsFormulaIn : List Place → Rectangle → Place → Type 0
IsFormulaIn cells area q = Contains cells q × (covers area q ≡ true)

-- a formula cell of one of the areas
abbrev pub IsFormulaInAny : List Place → List Rectangle → Place → Type 0
IsFormulaInAny cells areas q = Contains cells q × (is_touched q areas ≡ true)

-- the area of a run's cells
abbrev pub area_of : Rows → Rectangle
area_of run = record { sheet = run.sheet; first_col = run.col; last_col = run.col; first_row = run.first; last_row = run.last }

-- the cell reads a cell of one of the areas
abbrev pub reads_any_of : ReadAreas → List Rectangle → Place → Bool
reads_any_of read areas q = list_any (λ area. reads_one_of read area q) areas

-- the cell reads that one
abbrev pub reads_cell : ReadAreas → Place → Place → Bool
reads_cell read q p = list_any (λ a. covers a p) (listed (read q))

-- each cell that reads that one is marked
abbrev pub AreReadersMarked : ReadAreas → List Place → List Bool → Place → Type 0
AreReadersMarked read cells marks p = (q : Place) → reads_cell read q p ≡ true → IsMarked cells marks q

-- Each run that was found has stale cells alone, each marked cell is in one, and so are the touched formula cells; all
-- that read a touched cell, or a cell of the first runs, are marked.
pub record IsSpreading (read : ReadAreas) (cells : List Place) (touched : List Rectangle) (marks : List Bool) (found : List Rows) (head : ℕ) : Type 0 where
  pub size : length marks ≡ length cells
  pub sound : (q : Place) → is_in_any q found ≡ true → IsStale read touched q
  pub queued : (q : Place) → IsMarked cells marks q → is_in_any q found ≡ true
  pub lying : (q : Place) → IsFormulaInAny cells touched q → IsMarked cells marks q
  pub reading : (p : Place) → is_touched p touched ≡ true → AreReadersMarked read cells marks p
  pub followed : (p : Place) → is_in_any p (take head found) ≡ true → AreReadersMarked read cells marks p

-- Places of cells in a list in order.
use Rattle.std.specs.Prelude.{◌≡◌, ◌≤◌, ◌<◌, ℕ, true, false, List, length, slice_index_or, Option, Some, None}
use Rattle.calc_addr.specs.Places.{IsBefore, Place, Rectangle, covers}
use Rattle.dirty_spread.specs.Waves.{has}

-- the cell at a place of the list
abbrev pub at : List Place → ℕ → Place
at cells i = slice_index_or cells i (record { sheet = 0; col = 0; row = 0 })

-- The place is that of the first cell that isn't before a cell, or behind all.
pub record IsFirstFrom (cells : List Place) (cell : Place) (place : ℕ) : Type 0 where
  pub within : place ≤ length cells
  pub before : (i : ℕ) → i < place → IsBefore (at cells i) cell
  pub from : (i : ℕ) → place ≤ i → i < length cells → IsBefore (at cells i) cell → ⊥

-- The place is that of the first cell of an area from a place on, or behind all.
pub record IsNextIn (cells : List Place) (area : Rectangle) (from place : ℕ) : Type 0 where
  pub within : place ≤ length cells
  pub here : place < length cells → covers area (at cells place) ≡ true
  pub none : (i : ℕ) → from ≤ i → i < place → covers area (at cells i) ≡ false

-- The place is that of the last cell of an area.
abbrev pub IsLastAt : List Place → Rectangle → ℕ → Type 0
IsLastAt cells area last = (last < length cells) × (at cells last ≡ record { sheet = area.sheet; col = area.last_col; row = area.last_row })

-- Behind a cell that isn't in the area no cell before that one is, or none at all.
abbrev pub IsSkip : Rectangle → Place → Option Place → Type 0
IsSkip area cell None = (q : Place) → IsBefore cell q → covers area q ≡ false
IsSkip area cell (Some next) = IsBefore cell next × ((q : Place) → IsBefore cell q → IsBefore q next → covers area q ≡ false)

-- The cell of an area isn't in the list, but is one of the circular ones.
pub record IsCircleIn (cells circles : List Place) (area : Rectangle) (q : Place) : Type 0 where
  pub covered : covers area q ≡ true
  pub beside : has cells q ≡ false
  pub circle : has circles q ≡ true

-- The place among the circular cells is that of one of the area or behind all, and each one of the area before it is
-- in the list.
pub record IsPassed (cells circles : List Place) (area : Rectangle) (place : ℕ) : Type 0 where
  pub within : place ≤ length circles
  pub here : place < length circles → covers area (at circles place) ≡ true
  pub before : (i : ℕ) → i < place → covers area (at circles i) ≡ true → has cells (at circles i) ≡ true

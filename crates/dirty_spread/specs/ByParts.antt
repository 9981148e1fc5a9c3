-- Rows of parts of runs, by their places among the stale cells.
use Rattle.std.specs.Prelude.{◌≡◌, ◌<◌, ℕ, ◌+◌, ◌-◌, List, length, map, take}
use Rattle.calc_addr.specs.Places.{Place, Rectangle, Rows}
use Rattle.calc_model.specs.Ears.{ReadArea, area_at}
use Rattle.calc_model.specs.Listeners.{ReadAreas, listed}
use Rattle.cell_runs.specs.CellLists.{all_cells}
use Rattle.dirty_spread.specs.Finding.{at}

-- the areas of a row, so many rows below the first one
abbrev pub areas_below : List ReadArea → ℕ → List Rectangle
areas_below ears step = map (λ ear. area_at ear step) ears

-- So many cells from a place on read what the ears say of them, each one row below the one before.
abbrev pub AreRowsOf : ReadAreas → List Place → ℕ → ℕ → List ReadArea → Type 0
AreRowsOf read cells place count ears =
    (k : ℕ) → k < count → (place + k < length cells) × (listed (read (at cells (place + k))) ≡ areas_below ears k)

-- The cells of a run stand in the list from a place on.
abbrev pub AreRowsAt : List Place → Rows → ℕ → Type 0
AreRowsAt cells run place =
    (k : ℕ) → k < run.last + 1 - run.first → (place + k < length cells) × (at cells (place + k) ≡ record { sheet = run.sheet; col = run.col; row = run.first + k })

-- how many cells the first runs have
abbrev pub cells_before : List Rows → ℕ → ℕ
cells_before runs n = length (all_cells (take n runs))

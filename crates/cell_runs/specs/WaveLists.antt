-- Lists of cells, kept as runs with the places at which each list begins.
use Rattle.std.specs.Prelude.{◌≡◌, ◌≢◌, ◌≤◌, ◌<◌, ℕ, ◌+◌, List, [], ◌∷◌, ◌++◌, length, map, slice_index, slice_index_or}
use Rattle.std.specs.List.{range_with_len, slice_range}
use Rattle.calc_addr.specs.Places.{Place, Rows}
use Rattle.cell_runs.specs.CellLists.{all_cells}

-- the runs of a list
abbrev pub part : List Rows → List ℕ → ℕ → List Rows
part runs starts k = slice_range runs (slice_index starts k) (slice_index_or starts (k + 1) (length runs))

abbrev pub lists_of : List Rows → List ℕ → List (List Place)
lists_of runs starts = map (λ k. all_cells (part runs starts k)) (range_with_len 0 (length starts))

-- The lists begin one behind the other.
pub record AreStarts (runs : List Rows) (starts : List ℕ) : Type 0 where
  pub in_turn : (k : ℕ) → k < length starts → slice_index starts k ≤ slice_index_or starts (k + 1) (length runs)
  pub within : (k : ℕ) → k < length starts → slice_index_or starts (k + 1) (length runs) ≤ length runs

-- A cell was added to one of the lists, the last or a new one.
pub record IsAdded (old new : List (List Place)) (wave : ℕ) (q : Place) : Type 0 where
  pub size : length new ≡ wave + 1
  pub here : slice_index_or new wave [] ≡ slice_index_or old wave [] ++ q ∷ []
  pub others : (k : ℕ) → k ≢ wave → slice_index_or new k [] ≡ slice_index_or old k []

-- A list without cells was added behind all.
pub record IsOpened (old new : List (List Place)) : Type 0 where
  pub size : length new ≡ length old + 1
  pub same : (k : ℕ) → slice_index_or new k [] ≡ slice_index_or old k []

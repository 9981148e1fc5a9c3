-- In which order stale formulas are calculated: each in the first wave behind those of all stale cells that it reads.
-- A stale formula that reaches a circle, or a cell outside the stale ones that shows one, is in no wave.
use Rattle.std.specs.Prelude.{◌≡◌, ◌≢◌, ◌<◌, ◌↔◌, ℕ, zero, suc, true, false, not, List, [], length, slice_index_or, Contains, if◌then◌else◌}
use Rattle.std.specs.List.{AllPairs, list_any}
use Rattle.std.specs.Ordering.{eq_by_cmp}
use Rattle.calc_addr.specs.Places.{IsBefore, Place, place_cmp}
use Rattle.calc_model.specs.Grounded.{all_cells}
use Rattle.calc_model.specs.Listeners.{ReadAreas, listed}
use Rattle.calc_model.specs.Touched.{CellSet}

-- whether the cell is one of the list's
abbrev pub has : List Place → CellSet
has cells q = list_any (eq_by_cmp place_cmp q) cells

-- What is known of the cells: what the formulas read, which of them are stale, and which other cells show a circle.
pub record Problem : Type 0 where
  pub read : ReadAreas
  pub stale : List Place
  pub circular : CellSet

-- the problem of stale cells, where these are the cells that show circles
abbrev pub problem_of : ReadAreas → List Place → List Place → Problem
problem_of read stale circles = record { read = read; stale = stale; circular = has circles }

-- The cell is done before the wave of that number: each cell that it reads was done before the wave in front, if it is
-- stale, and shows no circle otherwise.
abbrev pub is_done : Problem → ℕ → CellSet
is_done problem zero q = false
is_done problem (suc k) q = all_cells (λ p. if has problem.stale p then is_done problem k p else not (problem.circular p)) (listed (problem.read q))

-- the stale cell stands in the wave of that number, counted from 0
pub record IsInWave (problem : Problem) (k : ℕ) (q : Place) : Type 0 where
  pub stale : Contains problem.stale q
  pub done : is_done problem (suc k) q ≡ true
  pub not_yet : is_done problem k q ≡ false

-- the stale cell stands in no wave
pub record IsInNone (problem : Problem) (q : Place) : Type 0 where
  pub stale : Contains problem.stale q
  pub never : (k : ℕ) → is_done problem k q ≡ false

-- The list has the cells of a kind, each once, in the order of cells.
pub record AreAll (IsOne : Place → Type 0) (cells : List Place) : Type 0 where
  pub in_order : AllPairs IsBefore cells
  pub exact : (q : Place) → Contains cells q ↔ IsOne q

-- The lists are the waves, none of them empty.
pub record AreWaves (problem : Problem) (waves : List (List Place)) : Type 0 where
  pub each : (k : ℕ) → AreAll (IsInWave problem k) (slice_index_or waves k [])
  pub some : (k : ℕ) → k < length waves → slice_index_or waves k [] ≢ []

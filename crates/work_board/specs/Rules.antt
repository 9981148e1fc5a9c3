-- The rules of the boards' words and the views of their passes, and what a step tells its pass.
use Rattle.std.specs.Prelude.{◌≡◌, ℕ, ◌+◌, ◌*◌, ◌/◌, ◌%◌, ◌^◌, ◌<◌, ◌≤◌, ◌==◌, min, ltb, List, [], length, sum_by, slice_index, if◌then◌else◌}
use Rattle.std.specs.Int.{bit_at}
use mathlib.Core.Option.{some}
use lib.ListN.{get_elem?}
use Rattle.atomic_table.specs.Table.{Me, Step}
use Rattle.work_board.specs.declared.pass_view.PassView.{PassView}
use Rattle.work_board.specs.Views.{with_listed, with_missed, with_none, nones}
use Rattle.work_board.specs.Counts.{times, once_below}

-- a fact of each pass
abbrev pub Each : (PassView → Type 0) → List PassView → Type 0
Each P views = (seat : ℕ) (v : PassView) → get_elem? views seat ≡ some v → P v

-- a pass shows the board's size; one that was joined into another is empty
pub record IsOfBoard (size : ℕ) (v : PassView) : Type 0 where
  pub same : 0 < v.passes → v.size ≡ size
  pub spent : v.passes ≡ 0 → (v.listed ≡ []) × (v.missed ≡ [])

abbrev pub HasFewNones : PassView → Type 0
HasFewNones v = nones v ≤ v.passes

-- what both rules say: the passes list each number as often as it was taken
pub record IsShared (size : ℕ) (taken : ℕ → ℕ) (views : List PassView) : Type 0 where
  pub own : Each (IsOfBoard size) views
  pub listed : (x : ℕ) → sum_by (λ v. times x v.listed) views ≡ taken x
  pub within : (x : ℕ) → taken x ≤ once_below x size
  pub parts : sum_by (λ v. v.passes + v.rights) views ≡ 65

-- the units that were drawn are those below the word; beyond them each None added one
pub record IsDrawn (units word : ℕ) (views : List PassView) : Type 0 where
  pub small : units < 2 ^ 32
  pub shared : IsShared units (λ x. once_below x (min word units)) views
  pub few : Each HasFewNones views
  pub excess : word ≡ min word units + sum_by nones views

abbrev pub IsDrawBoard : ℕ → List ℕ → List PassView → Type 0
IsDrawBoard units words views = (length words ≡ 1) × IsDrawn units (slice_index words 0) views

-- 1 where the bit is set in the words, of 64 bits each
abbrev pub bit_of : List ℕ → ℕ → ℕ
bit_of words bit = bit_at (slice_index words (bit / 64)) (bit % 64)

-- a bit is set exactly where one pass lists it, and each bit that was met is set
pub record IsMarkBoard (bits : ℕ) (words : List ℕ) (views : List PassView) : Type 0 where
  pub room : bits ≤ 64 * length words
  pub shared : IsShared bits (bit_of words) views
  pub met : (bit : ℕ) → 0 < sum_by (λ v. times bit v.missed) views → bit_of words bit ≡ 1

-- a draw tells the pass that the number found is its own, or that none is left
abbrev pub DrawTells : Step ℕ → Me ℕ PassView → ℕ → Me ℕ PassView → Type 0
DrawTells step old found new =
    (length old.0.listed ≤ min found old.0.size)
    × (new.0 ≡ (if ltb found old.0.size then with_listed found old.0 else with_none old.0))
    × (new.1 ≡ old.1)

-- what a mark makes of the pass, by the word that it found
abbrev pub marked : ℕ → ℕ → PassView → PassView
marked bit found v = if bit_at found (bit % 64) == 0 then with_listed bit v else with_missed bit v

-- a mark tells the pass whether it is the first marker of the bit, and that it lists none twice
abbrev pub MarkTells : Step ℕ → Me ℕ PassView → ℕ → Me ℕ PassView → Type 0
MarkTells step old found new =
    ((x : ℕ) → times x new.0.listed ≤ once_below x old.0.size)
    × (new.1 ≡ old.1)
    × ((bit : ℕ) → bit / 64 ≡ step.word → 2 ^ (bit % 64) ≡ step.first
    → new.0 ≡ marked bit found old.0)

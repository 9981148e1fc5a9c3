-- Levels of stale cells while their waves are found: 0 before a cell is looked at, 1 while it is, 2 where it is in no
-- wave, and k + 3 where it is in the wave of number k.
use Rattle.std.specs.Prelude.{◌≡◌, ◌≢◌, ◌≤◌, ◌<◌, ◌⊎◌, ℕ, suc, ◌+◌, ◌*◌, ◌==◌, true, false, List, [], length, slice_index, slice_index_or, Contains}
use Rattle.std.specs.List.{All, AllPairs, count_by, list_any}
use Rattle.calc_addr.specs.Places.{IsBefore, Place, Rectangle, covers}
use Rattle.calc_model.specs.Listeners.{ReadAreas, listed}
use Rattle.calc_model.specs.Touched.{CellSet}
use Rattle.dirty_spread.specs.declared.look.Cursor.{Cursor}
use Rattle.dirty_spread.specs.declared.look.Frame.{Frame}
use Rattle.dirty_spread.specs.declared.look.Seen.{Seen}
use Rattle.dirty_spread.specs.declared.look.Seen.TheVariants as seen
use Rattle.dirty_spread.specs.Finding.{at}
use Rattle.dirty_spread.specs.Waves.{Problem, has, is_done, problem_of}

abbrev pub level : List ℕ → ℕ → ℕ
level levels i = slice_index levels i

-- the cell of the list has a wave, and at most that level
abbrev pub IsSettled : List ℕ → ℕ → ℕ → Type 0
IsSettled levels greatest i = (3 ≤ level levels i) × (level levels i ≤ greatest)

-- The cells of an area from a place on have waves up to another place, of at most a level.
pub record IsScan (cells : List Place) (levels : List ℕ) (area : Rectangle) (from least place greatest : ℕ) : Type 0 where
  pub within : place ≤ length cells
  pub here : place < length cells → covers area (at cells place) ≡ true
  pub settled : (i : ℕ) → from ≤ i → i < place → covers area (at cells i) ≡ true → IsSettled levels greatest i
  pub more : least ≤ greatest
  pub attained : (greatest ≡ least) ⊎ ((i : ℕ) × (i < length cells) × (covers area (at cells i) ≡ true) × (level levels i ≡ greatest))

-- The same for an area of one column up to the place of its last cell.
pub record IsColumnScan (cells : List Place) (levels : List ℕ) (area : Rectangle) (from last least place greatest : ℕ) : Type 0 where
  pub on : from ≤ place
  pub within : place ≤ length cells
  pub here : place ≤ last → covers area (at cells place) ≡ true
  pub settled : (i : ℕ) → from ≤ i → i < place → covers area (at cells i) ≡ true → IsSettled levels greatest i
  pub more : least ≤ greatest
  pub attained : (greatest ≡ least) ⊎ ((i : ℕ) × (i < length cells) × (covers area (at cells i) ≡ true) × (level levels i ≡ greatest))

-- one of the areas has the cell
abbrev pub is_in_one : List Rectangle → Place → Type 0
is_in_one areas q = list_any (λ area. covers area q) areas ≡ true

-- an area of the list
abbrev pub area_at : List Rectangle → ℕ → Rectangle
area_at areas j = slice_index_or areas j (record { sheet = 0; first_col = 0; last_col = 0; first_row = 0; last_row = 0 })

-- So far as the cursor, the cells of the areas have waves, or aren't stale and show no circle.
pub record IsLooked (cells : List Place) (circular : CellSet) (areas : List Rectangle) (levels : List ℕ) (cursor : Cursor) : Type 0 where
  pub low : 2 ≤ cursor.greatest
  pub within : cursor.next ≤ length cells
  pub settled : (j i : ℕ) → j < cursor.area → j < length areas → i < length cells → covers (area_at areas j) (at cells i) ≡ true → IsSettled levels cursor.greatest i
  pub beside : (j : ℕ) (q : Place) → j < cursor.area → j < length areas → covers (area_at areas j) q ≡ true → has cells q ≡ false → circular q ≡ false
  pub part : (i : ℕ) → cursor.area < length areas → i < cursor.next → covers (area_at areas cursor.area) (at cells i) ≡ true → IsSettled levels cursor.greatest i
  pub attained : (cursor.greatest ≡ 2) ⊎ ((i : ℕ) × (i < length cells) × is_in_one areas (at cells i) × (level levels i ≡ cursor.greatest))

-- a stale cell of one of the areas that has no wave yet
pub record IsOpen (cells : List Place) (areas : List Rectangle) (levels : List ℕ) (i : ℕ) : Type 0 where
  pub within : i < length cells
  pub read : is_in_one areas (at cells i)
  pub none : level levels i ≤ 2

-- a cell of one of the areas that isn't stale and shows a circle
pub record IsCircleBeside (cells : List Place) (circular : CellSet) (areas : List Rectangle) (q : Place) : Type 0 where
  pub read : is_in_one areas q
  pub beside : has cells q ≡ false
  pub circle : circular q ≡ true

-- what was seen in the areas
abbrev pub IsSeen : List Place → CellSet → List Rectangle → List ℕ → Seen → Type 0
IsSeen cells circular areas levels (seen.Settled cursor) = (length areas ≤ cursor.area) × IsLooked cells circular areas levels cursor
IsSeen cells circular areas levels (seen.Open cursor) = IsOpen cells areas levels cursor.next × IsLooked cells circular areas levels cursor
IsSeen cells circular areas levels seen.Circle = (q : Place) × IsCircleBeside cells circular areas q

-- The first cell isn't done before some waves after those before which the second isn't.
pub record Leads (problem : Problem) (p q : Place) : Type 0 where
  pub steps : ℕ
  pub later : (k : ℕ) → is_done problem k q ≡ false → is_done problem (steps + k) p ≡ false

-- how many cells weren't looked at, twice, and how many are
abbrev pub rest : List ℕ → List Frame → ℕ
rest levels path = 2 * count_by (λ x. x == 0) levels + length path

-- the areas that a stale cell reads
abbrev pub read_by : Problem → ℕ → List Rectangle
read_by problem i = listed (problem.read (at problem.stale i))

-- The levels are right, and those of the path are being looked at, each because the one before reads it.
pub record IsOrdering (problem : Problem) (levels : List ℕ) (path : List Frame) : Type 0 where
  pub size : length levels ≡ length problem.stale
  pub wave : (i k : ℕ) → i < length problem.stale → level levels i ≡ k + 3 → (is_done problem (suc k) (at problem.stale i) ≡ true) × (is_done problem k (at problem.stale i) ≡ false)
  pub circular : (i k : ℕ) → i < length problem.stale → level levels i ≡ 2 → is_done problem k (at problem.stale i) ≡ false
  pub on_path : (i : ℕ) → level levels i ≡ 1 → (f : Frame) × Contains path f × (f.place ≡ i)
  pub looking : All (λ f. (f.place < length problem.stale) × (level levels f.place ≡ 1) × IsLooked problem.stale problem.circular (read_by problem f.place) levels f.cursor) path
  pub leads : AllPairs (λ f g. (f.place ≢ g.place) × Leads problem (at problem.stale f.place) (at problem.stale g.place)) path
  pub room : rest levels path ≤ 2 * length problem.stale
  pub bound : (i : ℕ) → level levels i + rest levels path ≤ 2 * length problem.stale + 3

-- The places of these cells, which are being looked at, have level 2 or still 1, and no other level has changed.
pub record IsClosed (old new : List ℕ) : Type 0 where
  pub size : length new ≡ length old
  pub same : (i : ℕ) → level old i ≢ 1 → level new i ≡ level old i
  pub ones : (i : ℕ) → level old i ≡ 1 → (level new i ≡ 1) ⊎ (level new i ≡ 2)
  pub fresh : count_by (λ x. x == 0) new ≡ count_by (λ x. x == 0) old

-- what all levels say in the end
pub record AreLevels (problem : Problem) (levels : List ℕ) : Type 0 where
  pub size : length levels ≡ length problem.stale
  pub wave : (i k : ℕ) → i < length problem.stale → level levels i ≡ k + 3 → (is_done problem (suc k) (at problem.stale i) ≡ true) × (is_done problem k (at problem.stale i) ≡ false)
  pub circular : (i k : ℕ) → i < length problem.stale → level levels i ≡ 2 → is_done problem k (at problem.stale i) ≡ false
  pub settled : (i : ℕ) → i < length problem.stale → 2 ≤ level levels i
  pub bound : (i : ℕ) → level levels i ≤ 2 * length problem.stale + 3

-- Both lists are in order, and some levels are right, none of a cell that is being looked at.
pub record AreUnderWay (read : ReadAreas) (stale circles : List Place) (levels : List ℕ) : Type 0 where
  pub in_order : AllPairs IsBefore stale
  pub circles_in_order : AllPairs IsBefore circles
  pub ordering : IsOrdering (problem_of read stale circles) levels []

-- The place's level may be made 2.
abbrev pub IsClosable : List ℕ → Frame → Type 0
IsClosable levels f = (f.place < length levels) × ((level levels f.place ≡ 1) ⊎ (level levels f.place ≡ 2))

abbrev pub IsCircular : List ℕ → Frame → Type 0
IsCircular levels f = level levels f.place ≡ 2

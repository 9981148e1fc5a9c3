-- Which formulas read a cell, directly or through others, over the areas that each formula cell reads.
use Rattle.std.specs.Prelude.{◌≡◌, ◌≤◌, ◌<◌, ◌↔◌, ℕ, ◌-◌, true, List, [], ◌++◌, length, map, Option, Some, None, Contains, All}
use Rattle.std.specs.List.{AllPairs, list_any, flat_map, slice_range}
use Rattle.calc_addr.specs.Places.{Place, Rectangle, Rows, IsBefore, column_places, covers, places}
use Rattle.calc_model.specs.declared.dependents.Part.{Part}
use Rattle.calc_model.specs.Ears.{ReadArea, area_at}
use Rattle.calc_model.specs.Touched.{CellSet}

-- the areas that each formula cell reads; no other cell has a list
abbrev pub ReadAreas : Type 0
ReadAreas = Place → Option (List Rectangle)

-- the areas of the list, and none where there is no list
abbrev pub listed : Option (List Rectangle) → List Rectangle
listed None = []
listed (Some areas) = areas

-- the cell is a formula cell that reads one of the area's cells
abbrev pub reads_one_of : ReadAreas → Rectangle → CellSet
reads_one_of read area q = list_any (λ a. list_any (covers a) (places area)) (listed (read q))

-- The cells that read one of the area's cells, each once, in the order of cells.
pub record AreReaders (read : ReadAreas) (area : Rectangle) (cells : List Place) : Type 0 where
  pub in_order : AllPairs IsBefore cells
  pub exact : (q : Place) → Contains cells q ↔ (reads_one_of read area q ≡ true)

-- The formula cell reads one of the area's cells, or a cell that reaches one so.
pub data ReachesArea (read : ReadAreas) (area : Rectangle) : Place → Type 0 where
  directly : {q : Place} → reads_one_of read area q ≡ true → ReachesArea read area q
  through : {q p : Place} → list_any (λ a. covers a p) (listed (read q)) ≡ true → ReachesArea read area p → ReachesArea read area q

-- the list got these items at its end, and they are as said
abbrev pub Gets : {X : Type 0} → List X → List X → (List X → Type 0) → Type 0
Gets {X} old new Said = (items : List X) × (new ≡ old ++ items) × Said items

-- the cells of runs
abbrev pub cells_of : Rows → List Place
cells_of run = column_places run.sheet run.col run.first run.last

unfoldable pub cells_of_runs : List Rows → List Place
cells_of_runs runs = flat_map cells_of runs

-- Among the cells of these runs are all that read one of the area's cells, and none that doesn't reach one.
pub record AreReached (read : ReadAreas) (area : Rectangle) (runs : List Rows) : Type 0 where
  pub all : (q : Place) → reads_one_of read area q ≡ true → Contains (cells_of_runs runs) q
  pub only : (q : Place) → Contains (cells_of_runs runs) q → ReachesArea read area q

-- the row lies in the part
abbrev pub IsRowOf : Part → ℕ → Type 0
IsRowOf part row = (part.run.first ≤ row) × (row ≤ part.run.last)

-- Each row of the part reads what its ears say of it.
pub record IsHeard (read : ReadAreas) (run : Rows) (ears : List ReadArea) (part : Part) : Type 0 where
  pub column : (part.run.sheet ≡ run.sheet) × (part.run.col ≡ run.col)
  pub inside : (run.first ≤ part.run.first) × (part.run.last ≤ run.last)
  pub within : (part.from ≤ part.to) × (part.to ≤ length ears)
  pub areas : (row : ℕ) → IsRowOf part row → read (record { sheet = run.sheet; col = run.col; row = row }) ≡ Some (map (λ ear. area_at ear (row - part.run.first)) (slice_range ears part.from part.to))

abbrev pub IsAbove : Part → Part → Type 0
IsAbove upper lower = upper.run.last < lower.run.first

-- The parts are rising and apart, each row of one reads what its ears say, and each formula cell of the run lies in
-- one.
pub record ArePartsOf (read : ReadAreas) (run : Rows) (ears : List ReadArea) (parts : List Part) : Type 0 where
  pub rising : AllPairs IsAbove parts
  pub heard : All (IsHeard read run ears) parts
  pub all : (q : Place) (areas : List Rectangle) → Contains (cells_of run) q → read q ≡ Some areas → (part : Part) × Contains parts part × IsRowOf part q.row

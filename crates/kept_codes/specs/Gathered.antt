-- The formulas of groups, and those of them that don't keep their codes with a change of rows.
use Rattle.std.specs.Prelude.{◌≡◌, ◌≤◌, ◌<◌, ◌+◌, ◌-◌, ℕ, min, Bool, true, List, [], ◌∷◌, ◌⊎◌, Option, slice_index_or}
use Rattle.std.specs.List.{list_all}
use Rattle.calc_addr.specs.declared.cell.TheConstants.{LAST_ROW}
use Rattle.calc_addr.specs.Places.{IsPlace, Place}
use Rattle.calc_model.specs.declared.change.Change.{Change}
use Rattle.formula_code.specs.Codes.{Codes, IsCodeAt, form_at, tree_at}
use Rattle.formula_code.specs.Relative.{relative}
use Rattle.formula_groups.specs.declared.group.Group.{Group}
use Rattle.formula_groups.specs.Groups.{groups_of}
use Rattle.kept_codes.specs.Columns.{cell_in}
use Rattle.kept_codes.specs.RowChanges.{StaysIn, goes, tree_after}

-- the place is one of these
abbrev pub Among : Place → List Place → Type 0
Among q [] = ⊥
Among q (p ∷ ps) = (p ≡ q) ⊎ Among q ps

-- a cell of some rows of a column, whose formula has the code
pub record InRows (number first behind code : ℕ) (q : Place) (id : ℕ) : Type 0 where
  pub row : ℕ
  pub from : first ≤ row
  pub to : row < behind
  pub at : q ≡ cell_in number row
  pub coded : id ≡ code

-- the row behind a group
abbrev pub behind_of : Group → ℕ
behind_of g = min g.last LAST_ROW + 1

abbrev pub InGroups : ℕ → List Group → Place → ℕ → Type 0
InGroups number [] q id = ⊥
InGroups number (g ∷ groups) q id = InRows number g.first (behind_of g) g.code q id ⊎ InGroups number groups q id

-- a cell of the columns up to one, whose formula has the code
pub record InColumns (codes : List (List (Option ℕ))) (behind : ℕ) (q : Place) (id : ℕ) : Type 0 where
  pub number : ℕ
  pub to : number < behind
  pub within : InGroups number (groups_of (slice_index_or codes number [])) q id

-- a formula's cell, which stays
pub record Formulas (codes : Codes) (change : Change) (q : Place) (id : ℕ) : Type 0 where
  pub place : IsPlace q
  pub at : IsCodeAt codes id q
  pub stays : StaysIn change q

abbrev pub AreFormulas : Codes → Change → (Place → ℕ → Type 0) → Type 0
AreFormulas codes change visited = (q : Place) (id : ℕ) → visited q id → Formulas codes change q id

-- the code serves the changed formula at the cell to which its cell goes
abbrev pub KeepsCode : Codes → Change → ℕ → Place → Type 0
KeepsCode codes change id q = relative (goes change q) (tree_after change q (tree_at codes id q)) ≡ form_at codes id

-- Of the formulas that were visited, those that don't keep their codes were added to the cells, and no other cells.
pub record Gathers (codes : Codes) (change : Change) (visited : Place → ℕ → Type 0) (old new : List Place) : Type 0 where
  pub kept : (q : Place) → Among q old → Among q new
  pub told : (q : Place) (id : ℕ) → visited q id → KeepsCode codes change id q ⊎ Among q new
  pub only : (test : Place → Bool) → ((q : Place) (id : ℕ) → visited q id → test q ≡ true) → list_all test old ≡ true → list_all test new ≡ true

-- Of rows with one code those in front of one were visited, and the formula in it, if it is one of them, keeps its code.
pub record IsFront (codes : Codes) (change : Change) (number code first behind : ℕ) (old new : List Place) (row : ℕ) : Type 0 where
  pub from : first ≤ row
  pub to : row ≤ behind
  pub gathers : Gathers codes change (InRows number first row code) old new
  pub keeps : row < behind → KeepsCode codes change code (cell_in number row)

-- Those from one on were visited, and the formula above it, if it is one of them, keeps its code.
pub record IsBack (codes : Codes) (change : Change) (number code first behind : ℕ) (old new : List Place) (row : ℕ) : Type 0 where
  pub from : first ≤ row
  pub to : row ≤ behind
  pub gathers : Gathers codes change (InRows number row behind code) old new
  pub keeps : first < row → KeepsCode codes change code (cell_in number (row - 1))

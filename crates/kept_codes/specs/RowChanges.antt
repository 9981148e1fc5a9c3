-- Where cells go with a change of rows, and what becomes of their formulas.
use Rattle.std.specs.Prelude.{◌≡◌, ◌≤◌, ◌<◌, nat_le, ℕ}
use Rattle.calc_addr.specs.Places.{Place}
use Rattle.calc_model.specs.declared.change.Change.{Change}
use Rattle.calc_model.specs.declared.change.Change.TheVariants.{Inserted, Deleted}
use Rattle.calc_model.specs.declared.tree.Tree.{Tree}
use Rattle.calc_model.specs.Changes.{IsShift, changed}
use Rattle.calc_model.specs.Homes.{StaysDeleted, StaysInserted, home_after_deletion, home_after_insertion}
use Rattle.calc_model.specs.TreeShifts.{replaced}

-- the sheet whose rows change
abbrev pub sheet_of : Change → ℕ
sheet_of (Inserted sheet place count) = sheet
sheet_of (Deleted sheet place count) = sheet
sheet_of _ = 0

-- rows of a sheet are inserted or deleted
abbrev pub IsRowChange : Change → Type 0
IsRowChange (Inserted sheet place count) = IsShift place count
IsRowChange (Deleted sheet place count) = IsShift place count
IsRowChange _ = ⊥

-- the first of those rows
abbrev pub place_of : Change → ℕ
place_of (Inserted sheet place count) = place
place_of (Deleted sheet place count) = place
place_of _ = 0

-- The rows from one up to another lie all above that row, or all from it on.
abbrev pub AreOneSide : Change → ℕ → ℕ → Type 0
AreOneSide change first behind = (x y : ℕ) → first ≤ x → x < behind → first ≤ y → y < behind → nat_le (place_of change) x ≡ nat_le (place_of change) y

-- the cell to which a cell goes
abbrev pub goes : Change → Place → Place
goes (Inserted sheet place count) q = home_after_insertion sheet place count q
goes (Deleted sheet place count) q = home_after_deletion sheet place count q
goes _ q = q

-- the cell isn't pushed out of its sheet and isn't deleted
abbrev pub StaysIn : Change → Place → Type 0
StaysIn (Inserted sheet place count) q = StaysInserted sheet place count q
StaysIn (Deleted sheet place count) q = StaysDeleted sheet place count q
StaysIn _ q = Unit {0}

-- the tree of the formula at home
abbrev pub tree_after : Change → Place → Tree → Tree
tree_after change home = replaced (changed change home)

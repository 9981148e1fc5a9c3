-- What takes the place of a formula's references.
use Rattle.std.specs.Prelude.{◌≤◌, ◌+◌, ℕ}
use Rattle.calc_addr.specs.declared.cell.TheConstants.{LAST_ROW}
use Rattle.calc_addr.specs.Moves.{moved_reference}
use Rattle.calc_addr.specs.Places.{Place}
use Rattle.calc_addr.specs.References.{Reference}
use Rattle.calc_addr.specs.Shifts.{reference_after_deletion, reference_after_insertion}
use Rattle.calc_model.specs.declared.tree.Tree.{Tree}
use Rattle.calc_model.specs.declared.tree.Tree.TheVariants.{Ref}
use Rattle.calc_model.specs.TreeShifts.{on_sheet, or_deleted}
use Rattle.calc_model.specs.declared.change.Change.{Change}
use Rattle.calc_model.specs.declared.change.Change.TheVariants.{Stays, Moves, Inserted, Deleted}

-- the node in place of a reference of the formula at home
abbrev pub changed : Change → Place → Reference → Tree
changed Stays home r = Ref r
changed (Moves cols rows) home r = or_deleted (moved_reference cols rows r)
changed (Inserted sheet place count) home r = on_sheet home sheet (reference_after_insertion place count) r
changed (Deleted sheet place count) home r = on_sheet home sheet (reference_after_deletion place count) r

-- The rows of a shift are rows of a sheet.
pub record IsShift (place count : ℕ) : Type 0 where
  pub from : 1 ≤ place
  pub some : 1 ≤ count
  pub to : place + count ≤ LAST_ROW + 1

abbrev pub IsChange : Change → Type 0
IsChange (Inserted sheet place count) = IsShift place count
IsChange (Deleted sheet place count) = IsShift place count
IsChange _ = Unit {0}

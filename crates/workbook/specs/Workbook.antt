-- A workbook: its book, whether the hub of what its formulas read is spent, the stored results of its formulas, the cells
-- that edits touched since the last recalculation, and whether it is dead. A formula that reaches a touched cell is stale.
use Rattle.std.specs.Prelude.{◌≡◌, not, Bool, true, false, ⊤, Ok, Err}
use Rattle.calc_addr.specs.Places.{Place}
use Rattle.calc_model.specs.declared.edit.Edit.{Edit}
use Rattle.calc_model.specs.declared.edit.Edit.TheVariants.{Set, Clear, InsertRows, DeleteRows}
use Rattle.calc_model.specs.declared.edit.EditCause.{EditCause}
use Rattle.calc_model.specs.Books.{Book, IsBook}
use Rattle.calc_model.specs.Results.{shown_by}
use Rattle.calc_model.specs.Scalars.{CellValues}
use Rattle.calc_model.specs.Step.{step}
use Rattle.calc_model.specs.Stale.{is_formula_cell, stale_after}
use Rattle.calc_model.specs.Touched.{CellSet}
use Rattle.formula_results.specs.Results.{results_of}
use Rattle.recalc.specs.Recalculation.{AreRight, Stored}
use Rattle.workbook.specs.Touched.{Parts, is_stale}

pub record State : Type 0 where
  pub book : Book
  pub spent : Bool
  pub results : Stored
  pub touched : Parts
  pub dead : Bool

-- the same with a hub that isn't spent
abbrev pub mended : State → State
mended state = record state { spent = false }

-- the formulas that are stale
unfoldable pub stale_of : State → CellSet
stale_of state q = is_stale state.book state.touched q

-- what cells show by the results
unfoldable pub values_of : State → CellValues
values_of state = shown_by state.book (results_of state.results.results)

-- the formulas that are stale after an edit, by those before it
abbrev pub Stales : State → Edit → State → Type 0
Stales before edit after = (q : Place) → stale_of after q ≡ stale_after before.book edit after.book (stale_of before) q

-- the formulas that aren't stale, and all cells without a formula
abbrev pub current : State → CellSet
current state q = not (stale_of state q)

-- each formula that isn't stale shows its value in the book, and so do the cells without a formula
abbrev pub IsFresh : State → Type 0
IsFresh state = AreRight state.book state.results (current state)

-- the edit was made, the hub isn't spent, and the stored results stay
pub record Made (before : State) (edit : Edit) (after : State) : Type 0 where
  pub step : step before.book edit ≡ Ok after.book
  pub book : IsBook after.book
  pub stale : Stales before edit after
  pub alive : after.dead ≡ before.dead
  pub ready : after.spent ≡ false
  pub results : after.results ≡ before.results

-- rows come and go in what is a book
abbrev pub WasBook : Book → Edit → Type 0
WasBook before (InsertRows sheet place count) = IsBook before
WasBook before (DeleteRows sheet place count) = IsBook before
WasBook before _ = ⊤

-- the edit is refused, and the workbook is as before
pub record IsRefused (before : State) (edit : Edit) (cause : EditCause) (after : State) : Type 0 where
  pub step : step before.book edit ≡ Err cause
  pub kept : after ≡ before

-- memory was refused in the midst of an edit, and all formulas are stale
pub record IsDead (state : State) : Type 0 where
  pub dead : state.dead ≡ true
  pub stale : (q : Place) → stale_of state q ≡ is_formula_cell state.book q

-- memory was refused: where a cell was to be set or an area cleared, all but the hub is as before; else the workbook is
-- dead
abbrev pub AfterNoMemory : State → Edit → State → Type 0
AfterNoMemory before (Set cell content) after = mended after ≡ mended before
AfterNoMemory before (Clear area) after = mended after ≡ mended before
AfterNoMemory before _ after = IsDead after

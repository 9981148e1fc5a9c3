-- What becomes of cells, and of the areas that they read, when rows of a sheet are inserted or deleted.
use Rattle.std.specs.Prelude.{◌≡◌, ◌≤◌, ℕ, Bool, true, ◌+◌, ◌-◌, ◌&&◌, ◌==◌, not, nat_le, if◌then◌else◌, List, Option, None, Some, option_map}
use Rattle.std.specs.List.{filter_map}
use Rattle.calc_addr.specs.declared.cell.TheConstants.{LAST_ROW}
use Rattle.calc_addr.specs.Places.{Place, Rectangle, Rows}
use Rattle.calc_addr.specs.Shifts.{area_after_deletion, area_after_insertion, is_deleted, row_after_deletion, row_after_insertion}
use Rattle.calc_model.specs.Ears.{ReadArea, area_at}
use Rattle.calc_model.specs.Homes.{home_after_deletion, home_after_insertion}
use Rattle.calc_model.specs.RowEdits.{is_in_rows}
use Rattle.ears.specs.declared.row_edit.Change.{Change}
use Rattle.ears.specs.declared.row_edit.Change.TheVariants.{Insertion, Deletion}
use Rattle.ears.specs.declared.row_edit.RowEdit.{RowEdit}

-- there are so many rows of a sheet from the place on, one at least
pub record IsRowEdit (edit : RowEdit) : Type 0 where
  pub from : 1 ≤ edit.place
  pub some : 1 ≤ edit.count
  pub to : edit.place + edit.count ≤ LAST_ROW + 1

-- where the cell goes, if it isn't deleted
abbrev pub place_by : Change → ℕ → ℕ → ℕ → Place → Option Place
place_by Insertion sheet place count q = Some (home_after_insertion sheet place count q)
place_by Deletion sheet place count q = if is_in_rows sheet place count q then None else Some (home_after_deletion sheet place count q)

abbrev pub place_after : RowEdit → Place → Option Place
place_after edit q = place_by edit.change edit.sheet edit.place edit.count q

-- where a row of the edited sheet goes, if it isn't deleted
abbrev pub row_by : Change → ℕ → ℕ → ℕ → Option ℕ
row_by Insertion place count row = Some (row_after_insertion place count row)
row_by Deletion place count row = if is_deleted place count row then None else Some (row_after_deletion place count row)

-- what becomes of an area on the edited sheet
abbrev pub area_by : Change → ℕ → ℕ → Rectangle → Option Rectangle
area_by Insertion place count a = area_after_insertion place count a
area_by Deletion place count a = area_after_deletion place count a

-- what becomes of an area on any sheet, if it isn't deleted
abbrev pub area_after : RowEdit → Rectangle → Option Rectangle
area_after edit a = if a.sheet == edit.sheet then area_by edit.change edit.place edit.count a else Some a

-- what becomes of the areas that a cell reads: a deleted one goes
abbrev pub areas_after : RowEdit → List Rectangle → List Rectangle
areas_after edit areas = filter_map (area_after edit) areas

-- the end of an area goes with its row, and neither to the nearest one that stays nor to the sheet's last one
abbrev pub first_goes : Change → ℕ → ℕ → ℕ → Bool
first_goes Insertion place count row = true
first_goes Deletion place count row = not (is_deleted place count row)

abbrev pub last_goes : Change → ℕ → ℕ → ℕ → Bool
last_goes Insertion place count row = nat_le (row_after_insertion place count row) LAST_ROW
last_goes Deletion place count row = not (is_deleted place count row)

-- the ear with that area, whose ends move where they did and go with their rows
abbrev pub with_area : Change → ℕ → ℕ → ReadArea → Rectangle → ReadArea
with_area change place count ear area = record {
  area = area;
  first_moves = ear.first_moves && first_goes change place count ear.area.first_row;
  last_moves = ear.last_moves && last_goes change place count ear.area.last_row;
}

-- what becomes of the ear of rows whose areas all go as the first one does
abbrev pub ear_after : RowEdit → ReadArea → Option ReadArea
ear_after edit ear =
    if ear.area.sheet == edit.sheet
    then option_map (with_area edit.change edit.place edit.count ear) (area_by edit.change edit.place edit.count ear.area)
    else Some ear

-- the areas of the rows to the one that lies so many below the first one go as their ear does
abbrev pub GoTogether : RowEdit → ReadArea → ℕ → Type 0
GoTogether edit ear steps = (step : ℕ) → step ≤ steps → area_after edit (area_at ear step) ≡ option_map (λ e. area_at e step) (ear_after edit ear)

-- the cell so many rows further down
abbrev pub lowered : ℕ → Place → Place
lowered step q = record q { row = q.row + step }

abbrev pub first_cell : Rows → Place
first_cell run = record { sheet = run.sheet; col = run.col; row = run.first }

-- the rows of a run to the one that lies so many below the first one go as that does
abbrev pub RowsGoTogether : RowEdit → Rows → ℕ → Type 0
RowsGoTogether edit run steps = (step : ℕ) → step ≤ steps → place_after edit (lowered step (first_cell run)) ≡ option_map (lowered step) (place_after edit (first_cell run))

-- what becomes of a run whose rows go together, if it isn't deleted
abbrev pub run_after : RowEdit → Rows → Option Rows
run_after edit run = option_map (λ q. record run { first = q.row; last = q.row + (run.last - run.first) }) (place_after edit (first_cell run))

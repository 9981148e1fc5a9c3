-- How far the rows of a run go in which the end of an area stays on one side of a border.
use Rattle.std.specs.Prelude.{ℕ, Bool, true, ◌+◌, ◌-◌, ◌&&◌, nat_lt, min, if◌then◌else◌}
use Rattle.calc_addr.specs.declared.cell.TheConstants.{LAST_ROW}
use Rattle.calc_addr.specs.Places.{Rows}
use Rattle.calc_model.specs.Ears.{ReadArea}
use Rattle.ears.specs.declared.row_edit.RowEdit.{RowEdit}
use Rattle.ears.specs.declared.row_edit.Change.{Change}
use Rattle.ears.specs.declared.row_edit.Change.TheVariants.{Insertion, Deletion}

-- how many of so many rows, if the end that moves is before the border in the first one
abbrev pub limit : Bool → ℕ → ℕ → ℕ → ℕ
limit moves row border steps = if moves && nat_lt row border then min steps (border - 1 - row) else steps

-- where the rows begin that an insertion pushes out, or that stay behind deleted ones
abbrev pub second_border : Change → ℕ → ℕ → ℕ
second_border Insertion place count = LAST_ROW + 1 - count
second_border Deletion place count = place + count

-- how many of so many rows, for an area of the edited sheet and all borders
abbrev pub whole_on_sheet : RowEdit → ReadArea → ℕ → ℕ
whole_on_sheet edit ear steps =
    let first : ℕ → ℕ → ℕ = λ at whole. limit ear.first_moves ear.area.first_row at whole in
    let last : ℕ → ℕ → ℕ = λ at whole. limit ear.last_moves ear.area.last_row at whole in
    let border = second_border edit.change edit.place edit.count in
    last LAST_ROW (last border (last edit.place (first border (first edit.place (first 2 steps)))))

-- the same for the rows of a run themselves
abbrev pub whole_of_run : RowEdit → Rows → ℕ
whole_of_run edit run = limit true run.first (second_border edit.change edit.place edit.count) (limit true run.first edit.place (run.last - run.first))

-- Runs of which each row reads the one above it, or the one below it.
use Rattle.std.specs.Prelude.{◌≡◌, ◌≤◌, ◌<◌, ℕ, Bool, true, ◌+◌, ◌-◌, ◌&&◌, ◌==◌, nat_le, if◌then◌else◌}
use Rattle.calc_addr.specs.Places.{Rectangle, Rows, covers}
use Rattle.calc_model.specs.Ears.{ReadArea, area_at}

-- whether the run lies in a column of the area
abbrev pub is_across : Rows → Rectangle → Bool
is_across run a = (run.sheet == a.sheet) && (nat_le a.first_col run.col && nat_le run.col a.last_col)

-- each row of the run but the first one reads the cell above it
abbrev pub reads_above : Rows → ReadArea → Bool
reads_above run ear =
    is_across run ear.area
    && nat_le (ear.area.first_row + (if ear.first_moves then 1 else 0)) run.first
    && nat_le (if ear.last_moves then run.first else run.last) (ear.area.last_row + 1)

-- each row of the run but the last one reads the cell below it
abbrev pub reads_below : Rows → ReadArea → Bool
reads_below run ear =
    is_across run ear.area
    && nat_le ear.area.first_row (run.first + 1)
    && nat_le (if ear.last_moves then run.first + 1 else run.last) ear.area.last_row

-- the row so many below the first one reads the cell of another row of the run
abbrev pub ReadsRow : Rows → ReadArea → ℕ → ℕ → Type 0
ReadsRow run ear step row = covers (area_at ear step) (record { sheet = run.sheet; col = run.col; row = row }) ≡ true

-- Numbers of cells, which rise in the order of cells, and downwards by one.
use Rattle.std.specs.Prelude.{ℕ, Bool, ◌+◌, ◌-◌, ◌*◌, ◌/◌, ◌%◌, ◌&&◌, nat_le}
use Rattle.calc_addr.specs.declared.cell.TheConstants.{LAST_COL, LAST_ROW}
use Rattle.calc_addr.specs.Places.{Place, Rows}

-- how many cells there are on sixteen sheets
abbrev pub MOST : ℕ
MOST = 16 * LAST_COL * LAST_ROW

abbrev pub key_of : Place → ℕ
key_of q = (q.sheet * LAST_COL + (q.col - 1)) * LAST_ROW + (q.row - 1)

abbrev pub place_at : ℕ → Place
place_at key = record { sheet = key / LAST_ROW / LAST_COL; col = key / LAST_ROW % LAST_COL + 1; row = key % LAST_ROW + 1 }

abbrev pub first_key : Rows → ℕ
first_key run = key_of (record { sheet = run.sheet; col = run.col; row = run.first })

abbrev pub last_key : Rows → ℕ
last_key run = key_of (record { sheet = run.sheet; col = run.col; row = run.last })

-- whether the number is that of one of the run's cells
abbrev pub has_key : ℕ → Rows → Bool
has_key key run = nat_le (first_key run) key && nat_le key (last_key run)

-- Runs of which each row reads the one above it, or the one below it.
use Rattle.std.proofs.Common.{◌≡◌, ℕ, ◌+◌, ◌≤◌, ◌<◌, Bool, true, false, cond, ◌&&◌, nat_le, refl, ap, ◌∙◌, arith}
use Rattle.std.specs.Prelude.{◌==◌}
use Rattle.std.proofs.lemmas.Bool.{and_from, and_parts, eqb-true, leb-true}
use Rattle.std.proofs.lemmas.Bool.Decides.{nat_tests}
use Rattle.calc_addr.specs.Places.{Place, Rows, covers}
use Rattle.calc_model.specs.Ears.{ReadArea, area_at, end_at}
use Rattle.ears.specs.Chains.{ReadsRow, is_across, reads_above, reads_below}

column : (run : Rows) (ear : ReadArea) (step row : ℕ) → is_across run ear.area ≡ true → nat_le (end_at ear.first_moves ear.area.first_row step) row ≡ true → nat_le row (end_at ear.last_moves ear.area.last_row step) ≡ true → ReadsRow run ear step row
column run ear step row across low high =
    let parts = and_parts (run.sheet == ear.area.sheet) (nat_le ear.area.first_col run.col && nat_le run.col ear.area.last_col) across in
    let cols = and_parts _ _ parts.1 in
    and_from _ _ (and_from _ _ (and_from _ _ (and_from _ _ parts.0 cols.0) cols.1) low) high

from_above : (moves : Bool) (row first step : ℕ) → nat_le (row + cond moves 1 0) first ≡ true → nat_le (end_at moves row (step + 1)) (first + step) ≡ true
from_above true row first step h = grind (arith, nat_tests)
from_above false row first step h = grind (arith, nat_tests)

to_above : (moves : Bool) (row first last step : ℕ) → first + step < last → nat_le (cond moves first last) (row + 1) ≡ true → nat_le (first + step) (end_at moves row (step + 1)) ≡ true
to_above true row first last step lt h = grind (arith, nat_tests)
to_above false row first last step lt h = grind (arith, nat_tests)

from_below : (moves : Bool) (row first step : ℕ) → nat_le row (first + 1) ≡ true → nat_le (end_at moves row step) (first + (step + 1)) ≡ true
from_below true row first step h = grind (arith, nat_tests)
from_below false row first step h = grind (arith, nat_tests)

to_below : (moves : Bool) (row first last step : ℕ) → first + step < last → nat_le (cond moves (first + 1) last) row ≡ true → nat_le (first + (step + 1)) (end_at moves row step) ≡ true
to_below true row first last step lt h = grind (arith, nat_tests)
to_below false row first last step lt h = grind (arith, nat_tests)

pub goes_above : (run : Rows) (ear : ReadArea) (step : ℕ) → reads_above run ear ≡ true → run.first + step < run.last → ReadsRow run ear (step + 1) (run.first + step)
goes_above run ear step h lt =
    let outer = and_parts _ _ h in
    let inner = and_parts _ _ outer.0 in
    column run ear (step + 1) (run.first + step) inner.0 (from_above ear.first_moves ear.area.first_row run.first step inner.1) (to_above ear.last_moves ear.area.last_row run.first run.last step lt outer.1)

pub goes_below : (run : Rows) (ear : ReadArea) (step : ℕ) → reads_below run ear ≡ true → run.first + step < run.last → ReadsRow run ear step (run.first + (step + 1))
goes_below run ear step h lt =
    let outer = and_parts _ _ h in
    let inner = and_parts _ _ outer.0 in
    column run ear step (run.first + (step + 1)) inner.0 (from_below ear.first_moves ear.area.first_row run.first step inner.1) (to_below ear.last_moves ear.area.last_row run.first run.last step lt outer.1)

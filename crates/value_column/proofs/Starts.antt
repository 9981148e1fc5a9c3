-- Rows of a column that don't come behind a cell.
use Rattle.std.proofs.Common.{◌≡◌, ℕ, zero, suc, ◌+◌, ◌-◌, ◌<◌, ◌≤◌, Bool, false, ap, ◌∙◌, arith}
use Rattle.std.specs.List.{filter}
use Rattle.calc_addr.specs.Places.{Place, column_places}
use Rattle.value_column.proofs.Columns.{row_in, skip-row}

skip-some : (p : Place → Bool) (sheet col n first last : ℕ) → first + n ≤ last + 1 → ((r : ℕ) → first ≤ r → r < first + n → p (row_in sheet col r) ≡ false) → filter p (column_places sheet col first last) ≡ filter p (column_places sheet col (first + n) last)
skip-some p sheet col zero first last h out = let e : first ≡ first + zero = omega arith in ap (λ i. filter p (column_places sheet col i last)) e
skip-some p sheet col (suc n) first last h out =
    let e : first + 1 + n ≡ first + suc n = omega arith in
    skip-row p sheet col first last (omega arith) (out first (omega arith) (omega arith))
    ∙ skip-some p sheet col n (first + 1) last (omega arith) (λ r m k. out r (omega arith) (omega arith))
    ∙ ap (λ i. filter p (column_places sheet col i last)) e

pub skip-rows : (p : Place → Bool) (sheet col first from last : ℕ) → first ≤ from → from ≤ last + 1 → ((r : ℕ) → first ≤ r → r < from → p (row_in sheet col r) ≡ false) → filter p (column_places sheet col first last) ≡ filter p (column_places sheet col from last)
skip-rows p sheet col first from last h k out =
    let e : first + (from - first) ≡ from = omega arith in
    skip-some p sheet col (from - first) first last (omega arith) (λ r m n. out r m (omega arith)) ∙ ap (λ i. filter p (column_places sheet col i last)) e

-- The groups of columns with a slot that is put into a cell.
use Rattle.std.proofs.Common.{◌≡◌, ℕ, suc, zero, ◌-◌, List, [], ◌∷◌, map, Option, refl, sym, ap, ◌∙◌}
use Rattle.std.specs.Prelude.{slice_index_or, slice_set}
use Rattle.calc_addr.specs.Places.{Place}
use Rattle.block_column.specs.declared.slot.Slot.{Slot}
use Rattle.cell_columns.specs.Cells.{Column, column_at, column_number, with_code, with_slot}
use Rattle.cell_columns.specs.Uses.{code_in, codes_in}
use Rattle.cell_columns.proofs.PutSlot.{codes_set}

pub codes_put : (columns : List Column) (n : ℕ) (c : Column) → map codes_in (slice_set columns n c) ≡ slice_set (map codes_in columns) n (codes_in c)
codes_put [] n c = refl
codes_put (d ∷ ds) zero c = refl
codes_put (d ∷ ds) (suc n) c = ap (λ t. codes_in d ∷ t) (codes_put ds n c)

pub codes_at : (columns : List Column) (n : ℕ) → slice_index_or (map codes_in columns) n [] ≡ codes_in (column_at columns n)
codes_at [] n = refl
codes_at (d ∷ ds) zero = refl
codes_at (d ∷ ds) (suc n) = codes_at ds n

pub grouped_put : (columns : List Column) (groups : List (List (Option ℕ))) (cell : Place) (x : Slot) → groups ≡ map codes_in columns → with_code groups cell (code_in x) ≡ map codes_in (with_slot columns cell x)
grouped_put columns groups cell x is =
    let n : ℕ = column_number cell in
    ap (λ gs. with_code gs cell (code_in x)) is
    ∙ ap (λ row. slice_set (map codes_in columns) n (slice_set row (cell.row - 1) (code_in x))) (codes_at columns n)
    ∙ ap (slice_set (map codes_in columns) n) (sym (codes_set (column_at columns n) (cell.row - 1) x))
    ∙ sym (codes_put columns n (slice_set (column_at columns n) (cell.row - 1) x))

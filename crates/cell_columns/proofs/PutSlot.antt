-- A slot that is put into a cell of columns.
use Rattle.std.proofs.Common.{◌≡◌, ◌≢◌, ℕ, suc, zero, ◌+◌, ◌-◌, ◌<◌, true, false, ◌==◌, List, [], ◌∷◌, length, refl, sym, ap, subst, ◌∙◌, arith}
use Rattle.std.specs.Prelude.{slice_index_or, slice_set, sum_by}
use Rattle.std.proofs.Common.{get_or-set_same, get_or-set_other, length-set}
use Rattle.std.proofs.lemmas.Bool.Decides.{Decides-eqb, nat_tests}
use Rattle.std.proofs.lemmas.List.Sums.{sum_by-set}
use Rattle.calc_addr.specs.declared.cell.TheConstants.{LAST_ROW}
use Rattle.calc_addr.specs.Places.{IsPlace, Place}
use Rattle.calc_model.proofs.Places.{exact_places}
use Rattle.block_column.specs.declared.slot.Slot.{Slot}
use Rattle.block_column.specs.declared.slot.Slot.TheVariants as slot
use Rattle.kept_codes.specs.declared.cells.TheConstants.{COLUMNS}
use Rattle.cell_columns.specs.Cells.{Column, column_at, column_number, slot_at, with_slot}
use Rattle.cell_columns.specs.Uses.{code_in, codes_in, summed}
use Rattle.cell_columns.proofs.Edited.{number_in}

pub codes_set : (c : Column) (i : ℕ) (x : Slot) → codes_in (slice_set c i x) ≡ slice_set (codes_in c) i (code_in x)
codes_set [] i x = refl
codes_set (y ∷ c) zero x = refl
codes_set (y ∷ c) (suc i) x = ap (λ t. code_in y ∷ t) (codes_set c i x)

same_place : (p q : Place) → IsPlace p → IsPlace q → column_number p ≡ column_number q → p.row - 1 ≡ q.row - 1 → p ≡ q
same_place p q is at number row =
    exact_places p q (grind (arith, nat_tests, is.sheet_in, is.col_from, is.col_to, is.row_from, is.row_to, at.sheet_in, at.col_from, at.col_to, at.row_from, at.row_to, number, row))

pub unequal : (a b : ℕ) → (a == b) ≡ false → a ≢ b
unequal a b h e = let same : (a == b) ≡ true = (Decides-eqb a b).1 e in cc

module _ (before : List Column) (all : length before ≡ COLUMNS) (rows : (number : ℕ) → number < COLUMNS → length (column_at before number) ≡ LAST_ROW) (cell : Place) (is : IsPlace cell) (x : Slot) where
  number : ℕ
  number = column_number cell

  column : Column
  column = column_at before (column_number cell)

  among : column_number cell < length before
  among = subst (λ n. column_number cell < n) (sym all) (number_in cell is)

  inside : cell.row - 1 < length (column_at before (column_number cell))
  inside = subst (λ n. cell.row - 1 < n) (sym (rows (column_number cell) (number_in cell is))) (omega (arith, is.row_from, is.row_to))

  pub put_all : length (with_slot before cell x) ≡ COLUMNS
  put_all = length-set before (column_number cell) (slice_set (column_at before (column_number cell)) (cell.row - 1) x) ∙ all

  pub put_rows : (n : ℕ) → n < COLUMNS → length (column_at (with_slot before cell x) n) ≡ LAST_ROW
  put_rows n h =
      let put : Column = slice_set (column_at before (column_number cell)) (cell.row - 1) x in
      elim (n == column_number cell) as (λ b. (n == column_number cell) ≡ b → length (column_at (with_slot before cell x) n) ≡ LAST_ROW) [
        | true ↦ λ same.
            let here : n ≡ column_number cell = (Decides-eqb n (column_number cell)).0 same in
            ap (λ k. length (column_at (with_slot before cell x) k)) here
            ∙ ap length (get_or-set_same before (column_number cell) put [] among)
            ∙ length-set (column_at before (column_number cell)) (cell.row - 1) x
            ∙ rows (column_number cell) (number_in cell is)
        | false ↦ λ other. ap length (get_or-set_other before (column_number cell) n put [] (unequal n (column_number cell) other)) ∙ rows n h
      ] refl

  pub at_cell : slot_at (with_slot before cell x) cell ≡ x
  at_cell =
      let put : Column = slice_set (column_at before (column_number cell)) (cell.row - 1) x in
      ap (λ c. slice_index_or c (cell.row - 1) slot.Empty) (get_or-set_same before (column_number cell) put [] among)
      ∙ get_or-set_same (column_at before (column_number cell)) (cell.row - 1) x slot.Empty inside

  pub elsewhere : (q : Place) → IsPlace q → q ≢ cell → slot_at (with_slot before cell x) q ≡ slot_at before q
  elsewhere q at other =
      let put : Column = slice_set (column_at before (column_number cell)) (cell.row - 1) x in
      elim (column_number q == column_number cell) as (λ b. (column_number q == column_number cell) ≡ b → slot_at (with_slot before cell x) q ≡ slot_at before q) [
        | true ↦ λ same.
            let here : column_number q ≡ column_number cell = (Decides-eqb (column_number q) (column_number cell)).0 same in
            ap (λ n. slice_index_or (column_at (with_slot before cell x) n) (q.row - 1) slot.Empty) here
            ∙ ap (λ c. slice_index_or c (q.row - 1) slot.Empty) (get_or-set_same before (column_number cell) put [] among)
            ∙ get_or-set_other (column_at before (column_number cell)) (cell.row - 1) (q.row - 1) x slot.Empty (λ row. other (same_place q cell at is here row))
            ∙ ap (λ n. slice_index_or (column_at before n) (q.row - 1) slot.Empty) (sym here)
        | false ↦ λ apart. ap (λ c. slice_index_or c (q.row - 1) slot.Empty) (get_or-set_other before (column_number cell) (column_number q) put [] (unequal (column_number q) (column_number cell) apart))
      ] refl

  -- a sum over the column's slots changes by the cell's
  pub rows_put : (f : Slot → ℕ) → sum_by f (column_at (with_slot before cell x) (column_number cell)) + f (slot_at before cell) ≡ sum_by f (column_at before (column_number cell)) + f x
  rows_put f =
      let c : Column = column_at before (column_number cell) in
      let put : Column = slice_set c (cell.row - 1) x in
      ap (λ d. sum_by f d + f (slot_at before cell)) (get_or-set_same before (column_number cell) put [] among)
      ∙ sum_by-set f c (cell.row - 1) x slot.Empty inside

  -- a sum over all slots changes by the cell's
  pub summed_put : (f : Slot → ℕ) → summed f (with_slot before cell x) + f (slot_at before cell) ≡ summed f before + f x
  summed_put f =
      let c : Column = column_at before (column_number cell) in
      let put : Column = slice_set c (cell.row - 1) x in
      let in_rows : sum_by f put + f (slot_at before cell) ≡ sum_by f c + f x =
      sum_by-set f c (cell.row - 1) x slot.Empty inside in
      let in_columns : summed f (with_slot before cell x) + sum_by f c ≡ summed f before + sum_by f put =
      sum_by-set (λ c. sum_by f c) before (column_number cell) put [] among in
      omega (arith, in_rows, in_columns)

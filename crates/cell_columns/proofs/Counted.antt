-- How many cells columns have.
use Rattle.std.proofs.Common.{◌≡◌, ℕ, ◌+◌, ◌≤◌, true, false, cond, List, [], ◌∷◌, length, length-append, refl, ap, ◌∙◌, arith}
use Rattle.std.specs.Prelude.{sum_by}
use Rattle.std.proofs.lemmas.List.Sums.{sum_by-cons}
use Rattle.std.proofs.lemmas.List.Elements.{filter-append}
use Rattle.calc_addr.specs.Places.{Place}
use Rattle.calc_model.specs.Books.{is_formula}
use Rattle.calc_model.proofs.EntriesMoved.{length-filter}
use Rattle.calc_model.specs.CellEdits.{CellEntries}
use Rattle.formula_code.specs.Codes.{Codes}
use Rattle.block_column.specs.declared.slot.Slot.{Slot}
use Rattle.block_column.specs.declared.slot.Slot.TheVariants as slot
use Rattle.block_column.specs.Kinds.{is_filled}
use Rattle.kept_codes.specs.Columns.{cell_in}
use Rattle.cell_columns.specs.Cells.{Column, cells_below, cells_from, cells_of, content_of}
use Rattle.cell_columns.specs.Uses.{cell_of, formula_of, formulas_in, summed}
use Rattle.cell_columns.specs.Walks.{formulas_of}

module _ (codes : Codes) where
  pub counted_below : (number row : ℕ) (xs : Column) → length (cells_below codes number row xs) ≡ sum_by cell_of xs
  counted_below number row [] = refl
  counted_below number row (x ∷ xs) =
      let rest : CellEntries = cells_below codes number (row + 1) xs in
      let behind : length rest ≡ sum_by cell_of xs = counted_below number (row + 1) xs in
      elim (is_filled x) as (λ b. length (cond b ((cell_in number row, content_of codes (cell_in number row) x) ∷ rest) rest) ≡ cond b 1 0 + sum_by cell_of xs) [
        | true ↦ omega (arith, behind)
        | false ↦ omega (arith, behind)
      ]
      ∙ omega (arith, sum_by-cons cell_of x xs)

  counted_from : (number : ℕ) (cs : List Column) → length (cells_from codes number cs) ≡ summed cell_of cs
  counted_from number [] = refl
  counted_from number (c ∷ cs) =
      omega (arith, length-append (cells_below codes number 1 c) (cells_from codes (number + 1) cs), counted_below number 1 c, counted_from (number + 1) cs, sum_by-cons (λ c. sum_by cell_of c) c cs)

  pub counted : (columns : List Column) → length (cells_of codes columns) ≡ summed cell_of columns
  unfolding cells_of
  counted columns = counted_from 0 columns

  formulas_below : (number row : ℕ) (xs : Column) → length (formulas_of (cells_below codes number row xs)) ≡ sum_by formula_of xs
  formulas_below number row [] = refl
  formulas_below number row (x ∷ xs) =
      let rest : CellEntries = cells_below codes number (row + 1) xs in
      let behind : length (formulas_of rest) ≡ sum_by formula_of xs = formulas_below number (row + 1) xs in
      first x rest (cell_in number row) ∙ omega (arith, behind, sum_by-cons formula_of x xs)
    where
      first : (x : Slot) (rest : CellEntries) (q : Place) → length (formulas_of (cond (is_filled x) ((q, content_of codes q x) ∷ rest) rest)) ≡ formula_of x + length (formulas_of rest)
      first slot.Empty rest q = omega arith
      first (slot.Number n) rest q = omega arith
      first (slot.Words text) rest q = omega arith
      first (slot.Bad fault) rest q = omega arith
      first (slot.Raw text) rest q = omega arith
      first (slot.Formula id) rest q = omega arith

  formulas_from : (number : ℕ) (cs : List Column) → length (formulas_of (cells_from codes number cs)) ≡ formulas_in cs
  formulas_from number [] = refl
  formulas_from number (c ∷ cs) =
      ap length (filter-append (λ e. is_formula e.1) (cells_below codes number 1 c) (cells_from codes (number + 1) cs))
      ∙ omega (arith, length-append (formulas_of (cells_below codes number 1 c)) (formulas_of (cells_from codes (number + 1) cs)), formulas_below number 1 c, formulas_from (number + 1) cs, sum_by-cons (λ c. sum_by formula_of c) c cs)

  pub formulas_counted : (columns : List Column) → length (formulas_of (cells_of codes columns)) ≡ formulas_in columns
  unfolding cells_of
  formulas_counted columns = formulas_from 0 columns

  -- no more formulas than cells
  pub formulas_few : (columns : List Column) → formulas_in columns ≤ length (cells_of codes columns)
  formulas_few columns = omega (arith, formulas_counted columns, length-filter (λ e. is_formula e.1) (cells_of codes columns))

-- A column whose rows go with a change: its parts go, and with them the cells.
use Rattle.std.proofs.Common.{◌≡◌, ℕ, suc, zero, ◌+◌, ◌≤◌, ◌<◌, true, false, cond, [], ◌∷◌, ◌++◌, length, map, replicate, refl, sym, ap, subst, ◌∙◌, arith}
use Rattle.std.specs.Prelude.{slice_index_or, sum_by}
use Rattle.std.proofs.lemmas.List.Sums.{sum_by-cons}
use Rattle.calc_addr.specs.Places.{Place}
use Rattle.calc_model.specs.declared.change.Change.{Change}
use Rattle.calc_model.specs.CellEdits.{CellEntries, with_tree}
use Rattle.calc_model.specs.RowEdits.{shifted_entry}
use Rattle.formula_code.specs.Codes.{Codes}
use Rattle.block_column.specs.declared.slot.Slot.{Slot}
use Rattle.block_column.specs.declared.slot.Slot.TheVariants as slot
use Rattle.block_column.specs.Kinds.{is_filled}
use Rattle.kept_codes.specs.Columns.{cell_in}
use Rattle.cell_columns.specs.Cells.{Column, cells_below, content_of}
use Rattle.kept_codes.specs.RowChanges.{goes, tree_after}
use Rattle.cell_columns.specs.Shifted.{shifted}
use Rattle.cell_columns.specs.Sheets.{IsFit}

same_row : (r : ℕ) → r + 0 ≡ r
same_row r = omega arith

next_row : (r i : ℕ) → r + 1 + i ≡ r + suc i
next_row r i = omega arith

-- something holds of each of these rows, from a row on
module _ (P : ℕ → Slot → Type 0) where
  abbrev pub Rows : ℕ → Column → Type 0
  Rows r [] = Unit {0}
  Rows r (x ∷ xs) = P r x × Rows (r + 1) xs

  pub rows_from : (r : ℕ) (xs : Column) → ((i : ℕ) → i < length xs → P (r + i) (slice_index_or xs i slot.Empty)) → Rows r xs
  rows_from r [] each = tt
  rows_from r (x ∷ xs) each =
      (subst (λ n. P n x) (same_row r) (each 0 (omega arith)), rows_from (r + 1) xs (λ i h. subst (λ n. P n (slice_index_or xs i slot.Empty)) (sym (next_row r i)) (each (suc i) (omega (arith, h)))))

  pub row_at : (r : ℕ) (xs : Column) → Rows r xs → (i : ℕ) → i < length xs → P (r + i) (slice_index_or xs i slot.Empty)
  row_at r [] all i h = absurd (omega (arith, h))
  row_at r (x ∷ xs) all zero h = subst (λ n. P n x) (sym (same_row r)) all.0
  row_at r (x ∷ xs) all (suc i) h = subst (λ n. P n (slice_index_or xs i slot.Empty)) (next_row r i) (row_at (r + 1) xs all.1 i (omega (arith, h)))

  pub rows_front : (r : ℕ) (xs ys : Column) → Rows r (xs ++ ys) → Rows r xs
  rows_front r [] ys all = tt
  rows_front r (x ∷ xs) ys all = (all.0, rows_front (r + 1) xs ys all.1)

  pub rows_back : (r : ℕ) (xs ys : Column) → Rows r (xs ++ ys) → Rows (r + length xs) ys
  rows_back r [] ys all = subst (λ n. Rows n ys) (sym (same_row r)) all
  rows_back r (x ∷ xs) ys all = subst (λ n. Rows n ys) (next_row r (length xs)) (rows_back (r + 1) xs ys all.1)

  pub rows_both : (r : ℕ) (xs ys : Column) → Rows r xs → Rows (r + length xs) ys → Rows r (xs ++ ys)
  rows_both r [] ys front back = subst (λ n. Rows n ys) (same_row r) back
  rows_both r (x ∷ xs) ys front back = (front.0, rows_both (r + 1) xs ys front.1 (subst (λ n. Rows n ys) (sym (next_row r (length xs))) back))

  pub rows_empty : ((r : ℕ) → P r slot.Empty) → (r n : ℕ) → Rows r (replicate n slot.Empty)
  rows_empty each r zero = tt
  rows_empty each r (suc n) = (each r, rows_empty each (r + 1) n)

-- a sum over rows in which those that are empty count nothing
pub sum_empty : (f : Slot → ℕ) → f slot.Empty ≡ 0 → (n : ℕ) → sum_by f (replicate n slot.Empty) ≡ 0
sum_empty f none zero = refl
sum_empty f none (suc n) = omega (arith, sum_by-cons f slot.Empty (replicate n slot.Empty), none, sum_empty f none n)

module _ (codes : Codes) (number : ℕ) where
  joined : (es fs gs : CellEntries) → (es ++ fs) ++ gs ≡ es ++ (fs ++ gs)
  joined [] fs gs = refl
  joined (e ∷ es) fs gs = ap (λ t. e ∷ t) (joined es fs gs)

  pub cells_append : (r : ℕ) (xs ys : Column) → cells_below codes number r (xs ++ ys) ≡ cells_below codes number r xs ++ cells_below codes number (r + length xs) ys
  cells_append r [] ys = ap (λ n. cells_below codes number n ys) (sym (same_row r))
  cells_append r (x ∷ xs) ys =
      let e : Place × _ = (cell_in number r, content_of codes (cell_in number r) x) in
      let front : CellEntries = cells_below codes number (r + 1) xs in
      let back : CellEntries = cells_below codes number (r + length (x ∷ xs)) ys in
      ap (λ (es : CellEntries). cond (is_filled x) (e ∷ es) es) (cells_append (r + 1) xs ys ∙ ap (λ n. front ++ cells_below codes number n ys) (next_row r (length xs)))
      ∙ elim (is_filled x) as (λ b. cond b (e ∷ (front ++ back)) (front ++ back) ≡ cond b (e ∷ front) front ++ back) [ true ↦ refl | false ↦ refl ]

  pub cells_empty : (r n : ℕ) → cells_below codes number r (replicate n slot.Empty) ≡ []
  cells_empty r zero = refl
  cells_empty r (suc n) = cells_empty (r + 1) n

  at_end : (es : CellEntries) → es ++ [] ≡ es
  at_end [] = refl
  at_end (e ∷ es) = ap (λ t. e ∷ t) (at_end es)

  -- empty rows between two parts, and behind them
  pub cells_between : (n : ℕ) (front back : Column) → cells_below codes number 1 (front ++ (replicate n slot.Empty ++ back)) ≡ cells_below codes number 1 front ++ cells_below codes number (1 + length front + length (replicate n slot.Empty)) back
  cells_between n front back =
      let gap : Column = replicate n slot.Empty in
      cells_append 1 front (gap ++ back)
      ∙ ap (λ es. cells_below codes number 1 front ++ es) (cells_append (1 + length front) gap back ∙ ap (λ (es : CellEntries). es ++ cells_below codes number (1 + length front + length gap) back) (cells_empty (1 + length front) n))

  pub cells_behind : (n : ℕ) (front back : Column) → cells_below codes number 1 (front ++ (back ++ replicate n slot.Empty)) ≡ cells_below codes number 1 front ++ cells_below codes number (1 + length front) back
  cells_behind n front back =
      cells_append 1 front (back ++ replicate n slot.Empty)
      ∙ ap (λ es. cells_below codes number 1 front ++ es) (cells_append (1 + length front) back (replicate n slot.Empty) ∙ ap (λ es. cells_below codes number (1 + length front) back ++ es) (cells_empty (1 + length front + length back) n) ∙ at_end (cells_below codes number (1 + length front) back))

  module _ (change : Change) where
    -- a slot that is one at the cell to which its cell goes, and what it holds there is what it held, changed
    pub record GoesWell (r : ℕ) (x : Slot) : Type 0 where
      pub fit : IsFit codes (goes change (cell_in number r)) x
      pub content : content_of codes (goes change (cell_in number r)) x ≡ with_tree (tree_after change (cell_in number r)) (content_of codes (cell_in number r) x)

    abbrev pub Fits : ℕ → Slot → Type 0
    Fits r x = IsFit codes (cell_in number r) x

    -- so many rows from one row on go to those from another on
    abbrev pub Meets : ℕ → ℕ → ℕ → Type 0
    Meets from to n = (r s : ℕ) → from ≤ r → r < from + n → s + from ≡ r + to → goes change (cell_in number r) ≡ cell_in number s

    meets_here : (from to n : ℕ) → Meets from to (suc n) → goes change (cell_in number from) ≡ cell_in number to
    meets_here from to n meets = meets from to (omega arith) (omega arith) (omega arith)

    meets_more : (from to n : ℕ) → Meets from to (suc n) → Meets (from + 1) (to + 1) n
    meets_more from to n meets r s low high is = meets r s (omega (arith, low)) (omega (arith, high)) (omega (arith, is))

    pub fits_there : (from to : ℕ) (xs : Column) → Rows GoesWell from xs → Meets from to (length xs) → Rows Fits to xs
    fits_there from to [] well meets = tt
    fits_there from to (x ∷ xs) well meets =
        (subst (λ q. IsFit codes q x) (meets_here from to (length xs) meets) well.0.fit, fits_there (from + 1) (to + 1) xs well.1 (meets_more from to (length xs) meets))

    pub cells_there : (from to : ℕ) (xs : Column) → Rows GoesWell from xs → Meets from to (length xs) → cells_below codes number to xs ≡ shifted change (cells_below codes number from xs)
    unfolding shifted
    cells_there from to [] well meets = refl
    cells_there from to (x ∷ xs) well meets =
        let q : Place = cell_in number from in
        let there : goes change q ≡ cell_in number to = meets_here from to (length xs) meets in
        let rest : CellEntries = cells_below codes number (from + 1) xs in
        let behind : cells_below codes number (to + 1) xs ≡ map (shifted_entry (goes change) (tree_after change)) rest =
        cells_there (from + 1) (to + 1) xs well.1 (meets_more from to (length xs) meets) in
        let e : Place × _ = (cell_in number to, content_of codes (cell_in number to) x) in
        let first : e ≡ shifted_entry (goes change) (tree_after change) (q, content_of codes q x) =
        ap (λ p. (p, content_of codes p x)) (sym there) ∙ ap (λ c. (goes change q, c)) well.0.content in
        elim (is_filled x) as (λ b. cond b (e ∷ cells_below codes number (to + 1) xs) (cells_below codes number (to + 1) xs) ≡ map (shifted_entry (goes change) (tree_after change)) (cond b ((q, content_of codes q x) ∷ rest) rest)) [
          | true ↦ ap (λ t. t ∷ cells_below codes number (to + 1) xs) first ∙ ap (λ t. shifted_entry (goes change) (tree_after change) (q, content_of codes q x) ∷ t) behind
          | false ↦ behind
        ]

    pub shifted_append : (es fs : CellEntries) → shifted change (es ++ fs) ≡ shifted change es ++ shifted change fs
    unfolding shifted
    shifted_append [] fs = refl
    shifted_append (e ∷ es) fs = ap (λ t. shifted_entry (goes change) (tree_after change) e ∷ t) (shifted_append es fs)

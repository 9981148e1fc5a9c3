-- A cell is found in its column.
use Rattle.std.proofs.Common.{◌≡◌, ℕ, suc, zero, ◌+◌, ◌≤◌, true, false, cond, List, [], ◌∷◌, ◌++◌, Option, Some, None, refl, sym, ap, subst, ◌∙◌, arith}
use Rattle.std.specs.Prelude.{slice_index_or}
use Rattle.std.specs.Ordering.{eq_by_cmp, is_eq, is_lt}
use Rattle.std.specs.declared.cmp.Ordering.{Ordering}
use Rattle.std.specs.declared.cmp.Ordering.TheVariants.{Less, Equal, Greater}
use Rattle.std.specs.FinMap.Entries.{below_all, find}
use Rattle.std.proofs.lemmas.Bool.Decides.{nat_tests}
use Rattle.calc_addr.specs.Places.{Place, place_cmp}
use Rattle.calc_model.specs.declared.content.Content.{Content}
use Rattle.calc_model.specs.CellEdits.{CellEntries}
use Rattle.calc_model.proofs.Areas.{both_true}
use Rattle.calc_model.proofs.Reached.{same_cell}
use Rattle.formula_code.specs.Codes.{Codes}
use Rattle.block_column.specs.declared.slot.Slot.{Slot}
use Rattle.block_column.specs.declared.slot.Slot.TheVariants as slot
use Rattle.block_column.specs.Kinds.{is_filled}
use Rattle.kept_codes.specs.Columns.{cell_in}
use Rattle.cell_columns.specs.Cells.{Column, cells_below, cells_from, content_of}
use Rattle.cell_columns.proofs.Orders.{below_column, below_columns, columns_rise, rows_rise}

not_same : (o : Ordering) → is_lt o ≡ true → is_eq o ≡ false
not_same Less h = refl
not_same Equal h = cc
not_same Greater h = cc

pub not_before : (q : Place) (es : CellEntries) → below_all place_cmp q es ≡ true → find place_cmp q es ≡ None
not_before q [] h = refl
not_before q (e ∷ es) h =
    let parts = both_true (is_lt (place_cmp q e.0)) (below_all place_cmp q es) h in
    ap (λ b. cond b (Some e.1) (find place_cmp q es)) (not_same (place_cmp q e.0) parts.0) ∙ not_before q es parts.1

apart : (p q : Place) → is_lt (place_cmp p q) ≡ true → eq_by_cmp place_cmp q p ≡ false
apart p q h = grind (arith, nat_tests)

-- neither list has the cell
in_neither : (q : Place) (es fs : CellEntries) → find place_cmp q es ≡ None → find place_cmp q fs ≡ None → find place_cmp q (es ++ fs) ≡ None
in_neither q [] fs h k = k
in_neither q (e ∷ es) fs h k =
    elim (eq_by_cmp place_cmp q e.0) as (λ b. cond b (Some e.1) (find place_cmp q es) ≡ None → cond b (Some e.1) (find place_cmp q (es ++ fs)) ≡ None) [
      | true ↦ λ is. cc
      | false ↦ λ is. in_neither q es fs is k
    ] h

module _ (codes : Codes) where
  -- what a slot is in a cell, if it isn't empty
  abbrev pub shown : Place → Slot → Option Content
  shown q x = cond (is_filled x) (Some (content_of codes q x)) None

  -- a cell of another column or of a row above isn't one of these rows
  skips : (q : Place) (number row : ℕ) → ((r : ℕ) → row ≤ r → eq_by_cmp place_cmp q (cell_in number r) ≡ false) → (xs : Column) (es : CellEntries) → find place_cmp q (cells_below codes number row xs ++ es) ≡ find place_cmp q es
  skips q number row other [] es = refl
  skips q number row other (x ∷ xs) es =
      let rest : CellEntries = cells_below codes number (row + 1) xs in
      let behind : find place_cmp q (rest ++ es) ≡ find place_cmp q es = skips q number (row + 1) (λ r h. other r (omega arith)) xs es in
      elim (is_filled x) as (λ b. find place_cmp q (cond b ((cell_in number row, content_of codes (cell_in number row) x) ∷ rest) rest ++ es) ≡ find place_cmp q es) [
        | true ↦ ap (λ b. cond b (Some (content_of codes (cell_in number row) x)) (find place_cmp q (rest ++ es))) (other row (omega arith)) ∙ behind
        | false ↦ behind
      ]

  in_row : (number row distance : ℕ) (q : Place) → q ≡ cell_in number (row + distance) → (xs : Column) (es : CellEntries) → find place_cmp q es ≡ None → find place_cmp q (cells_below codes number row xs ++ es) ≡ shown q (slice_index_or xs distance slot.Empty)
  in_row number row distance q is [] es none = none
  in_row number row zero q is (x ∷ xs) es none =
      let rest : CellEntries = cells_below codes number (row + 1) xs in
      let here : q ≡ cell_in number row = is ∙ ap (cell_in number) (omega arith) in
      let behind : find place_cmp q (rest ++ es) ≡ None =
      in_neither q rest es (not_before q rest (subst (λ p. below_all place_cmp p rest ≡ true) (sym here) (below_column codes (cell_in number row) number (row + 1) (λ r h. rows_rise number row r (omega arith)) xs))) none in
      elim (is_filled x) as (λ b. find place_cmp q (cond b ((cell_in number row, content_of codes (cell_in number row) x) ∷ rest) rest ++ es) ≡ cond b (Some (content_of codes q x)) None) [
        | true ↦ ap (λ b. cond b (Some (content_of codes (cell_in number row) x)) (find place_cmp q (rest ++ es))) (subst (λ p. eq_by_cmp place_cmp q p ≡ true) here (same_cell q)) ∙ ap (λ p. Some (content_of codes p x)) (sym here)
        | false ↦ behind
      ]
  in_row number row (suc distance) q is (x ∷ xs) es none =
      let rest : CellEntries = cells_below codes number (row + 1) xs in
      let lower : q ≡ cell_in number (row + 1 + distance) = is ∙ ap (cell_in number) (omega arith) in
      let found : find place_cmp q (rest ++ es) ≡ shown q (slice_index_or xs distance slot.Empty) = in_row number (row + 1) distance q lower xs es none in
      let other : eq_by_cmp place_cmp q (cell_in number row) ≡ false = subst (λ p. eq_by_cmp place_cmp p (cell_in number row) ≡ false) (sym is) (apart (cell_in number row) (cell_in number (row + suc distance)) (rows_rise number row (row + suc distance) (omega arith))) in
      elim (is_filled x) as (λ b. find place_cmp q (cond b ((cell_in number row, content_of codes (cell_in number row) x) ∷ rest) rest ++ es) ≡ shown q (slice_index_or xs distance slot.Empty)) [
        | true ↦ ap (λ b. cond b (Some (content_of codes (cell_in number row) x)) (find place_cmp q (rest ++ es))) other ∙ found
        | false ↦ found
      ]

  pub in_column : (number behind distance : ℕ) (q : Place) → q ≡ cell_in (number + behind) (1 + distance) → (cs : List Column) → find place_cmp q (cells_from codes number cs) ≡ shown q (slice_index_or (slice_index_or cs behind []) distance slot.Empty)
  in_column number behind distance q is [] = refl
  in_column number zero distance q is (c ∷ cs) =
      let here : q ≡ cell_in number (1 + distance) = is ∙ ap (λ n. cell_in n (1 + distance)) (omega arith) in
      in_row number 1 distance q here c (cells_from codes (number + 1) cs)
      (not_before q (cells_from codes (number + 1) cs) (subst (λ p. below_all place_cmp p (cells_from codes (number + 1) cs) ≡ true) (sym here) (below_columns codes (cell_in number (1 + distance)) (number + 1) (λ n r h. columns_rise number n (1 + distance) r (omega arith)) cs)))
  in_column number (suc behind) distance q is (c ∷ cs) =
      let later : q ≡ cell_in (number + 1 + behind) (1 + distance) = is ∙ ap (λ n. cell_in n (1 + distance)) (omega arith) in
      skips q number 1 (λ r h. subst (λ p. eq_by_cmp place_cmp p (cell_in number r) ≡ false) (sym is) (apart (cell_in number r) (cell_in (number + suc behind) (1 + distance)) (columns_rise number (number + suc behind) r (1 + distance) (omega arith)))) c (cells_from codes (number + 1) cs)
      ∙ in_column (number + 1) behind distance q later cs

-- The cells with codes are those that hold formulas.
use Rattle.std.proofs.Common.{◌≡◌, ℕ, suc, zero, ◌+◌, ◌-◌, ◌<◌, ◌↔◌, true, List, [], ◌∷◌, ◌++◌, length, map, Option, Some, None, unwrap_or, refl, sym, ap, subst, ◌∙◌, arith}
use Rattle.std.specs.Prelude.{Contains, slice_index_or}
use Rattle.std.specs.List.{AllByRecursion}
use Rattle.std.proofs.lemmas.List.Elements.{All-contains, All-from_recursion, Contains-append_left, Contains-append_right}
use Rattle.std.specs.FinMap.Entries.{find}
use Rattle.calc_addr.specs.declared.cell.TheConstants.{LAST_ROW}
use Rattle.calc_addr.specs.Places.{IsPlace, Place, place_cmp}
use Rattle.calc_model.specs.declared.content.Content.{Content}
use Rattle.calc_model.specs.declared.content.Content.TheVariants as content
use Rattle.calc_model.specs.Books.{content_at, is_formula}
use Rattle.calc_model.specs.CellEdits.{CellEntries}
use Rattle.formula_code.specs.Codes.{Codes}
use Rattle.formula_groups.specs.Groups.{groups_of}
use Rattle.block_column.specs.declared.slot.Slot.{Slot}
use Rattle.block_column.specs.declared.slot.Slot.TheVariants as slot
use Rattle.kept_codes.specs.declared.cells.TheConstants.{COLUMNS}
use Rattle.kept_codes.specs.Columns.{cell_in}
use Rattle.cell_columns.specs.Cells.{Column, cells_of, cells_only, column_at, column_number, content_of, slot_at}
use Rattle.kept_codes.specs.FormulaCells.{all_coded, cells_of_groups}
use Rattle.cell_columns.specs.Sheets.{AreSheets}
use Rattle.cell_columns.specs.Uses.{code_in, codes_in}
use Rattle.cell_columns.proofs.Edited.{number_in}
use Rattle.kept_codes.proofs.FormulaRows.{by_rows, coded_rows}
use Rattle.cell_columns.proofs.Told.{entries_are, entry_found, holds, number_of, place_in, place_is, row_behind, tested_place}

abbrev Holds : Codes → List Column → Place → Type 0
Holds codes columns q = is_formula (content_at (cells_only (cells_of codes columns)) q) ≡ true

-- each row with a code is among the cells
row_among : (number p i : ℕ) (c : Column) (id : ℕ) → slice_index_or c i slot.Empty ≡ slot.Formula id → Contains (coded_rows number p (codes_in c)) (cell_in number (p + i))
row_among number p i [] id is = cc
row_among number p zero (x ∷ c) id is =
    subst (λ (o : Option ℕ). Contains (coded_rows number p (o ∷ codes_in c)) (cell_in number (p + 0))) (sym (ap code_in is))
    (0, omega arith, ap (cell_in number) (none_more p))
  where
    none_more : (n : ℕ) → n ≡ n + 0
    none_more n = omega arith
row_among number p (suc i) (x ∷ c) id is =
    let behind : Contains (coded_rows number (p + 1) (codes_in c)) (cell_in number (p + suc i)) = subst (λ n. Contains (coded_rows number (p + 1) (codes_in c)) (cell_in number n)) (further p i) (row_among number (p + 1) i c id is) in
    with_first (code_in x) behind
  where
    further : (p i : ℕ) → p + 1 + i ≡ p + suc i
    further p i = omega arith

    with_first : (o : Option ℕ) → Contains (coded_rows number (p + 1) (codes_in c)) (cell_in number (p + suc i)) → Contains (coded_rows number p (o ∷ codes_in c)) (cell_in number (p + suc i))
    with_first None there = there
    with_first (Some k) there = Contains-append_right (cell_in number p ∷ []) (coded_rows number (p + 1) (codes_in c)) (cell_in number (p + suc i)) there

column_among : (number k : ℕ) (cs : List Column) (q : Place) → k < length cs → Contains (cells_of_groups (number + k) (groups_of (codes_in (slice_index_or cs k [])))) q → Contains (all_coded number (map codes_in cs)) q
column_among number k [] q h there = absurd (omega (arith, h))
column_among number zero (c ∷ cs) q h there =
    Contains-append_left (cells_of_groups number (groups_of (codes_in c))) (all_coded (number + 1) (map codes_in cs)) q
    (subst (λ n. Contains (cells_of_groups n (groups_of (codes_in c))) q) (none_more number) there)
  where
    none_more : (n : ℕ) → n + 0 ≡ n
    none_more n = omega arith
column_among number (suc k) (c ∷ cs) q h there =
    Contains-append_right (cells_of_groups number (groups_of (codes_in c))) (all_coded (number + 1) (map codes_in cs)) q
    (column_among (number + 1) k cs q (omega (arith, h)) (subst (λ n. Contains (cells_of_groups n (groups_of (codes_in (slice_index_or cs k [])))) q) (further number k) there))
  where
    further : (n k : ℕ) → n + suc k ≡ n + 1 + k
    further n k = omega arith

-- what holds of all rows with codes holds of the cells
module _ (P : Place → Type 0) where
  rows_so : (number p : ℕ) (c : Column) (ps : List Place) → ((i id : ℕ) → slice_index_or c i slot.Empty ≡ slot.Formula id → i < length c → P (cell_in number (p + i))) → AllByRecursion P ps → AllByRecursion P (coded_rows number p (codes_in c) ++ ps)
  rows_so number p [] ps so behind = behind
  rows_so number p (x ∷ c) ps so behind =
      with_first x refl (rows_so number (p + 1) c ps (λ i id is h. subst (λ n. P (cell_in number n)) (further p i) (so (suc i) id is (omega (arith, h)))) behind)
    where
      further : (p i : ℕ) → p + suc i ≡ p + 1 + i
      further p i = omega arith

      with_first : (y : Slot) → x ≡ y → AllByRecursion P (coded_rows number (p + 1) (codes_in c) ++ ps) → AllByRecursion P (coded_rows number p (code_in y ∷ codes_in c) ++ ps)
      with_first slot.Empty is rest = rest
      with_first (slot.Number n) is rest = rest
      with_first (slot.Words text) is rest = rest
      with_first (slot.Bad fault) is rest = rest
      with_first (slot.Raw text) is rest = rest
      with_first (slot.Formula id) is rest = (subst (λ n. P (cell_in number n)) (none_more p) (so 0 id is (omega arith)), rest)
        where
          none_more : (n : ℕ) → n + 0 ≡ n
          none_more n = omega arith

  columns_so : (number : ℕ) (cs : List Column) → ((k i id : ℕ) → k < length cs → slice_index_or (slice_index_or cs k []) i slot.Empty ≡ slot.Formula id → i < length (slice_index_or cs k []) → P (cell_in (number + k) (1 + i))) → AllByRecursion P (all_coded number (map codes_in cs))
  columns_so number [] so = tt
  columns_so number (c ∷ cs) so =
      subst (λ (ps : List Place). AllByRecursion P (ps ++ all_coded (number + 1) (map codes_in cs))) (sym (by_rows number (codes_in c)))
      (rows_so number 1 c (all_coded (number + 1) (map codes_in cs)) (λ i id is h. subst (λ n. P (cell_in n (1 + i))) (none_more number) (so 0 i id (omega arith) is h))
      (columns_so (number + 1) cs (λ k i id among is h. subst (λ n. P (cell_in n (1 + i))) (further number k) (so (suc k) i id (omega (arith, among)) is h))))
    where
      none_more : (n : ℕ) → n + 0 ≡ n
      none_more n = omega arith

      further : (n k : ℕ) → n + suc k ≡ n + 1 + k
      further n k = omega arith

found_held : (es : CellEntries) (q : Place) → is_formula (content_at (cells_only es) q) ≡ true → find place_cmp q es ≡ Some (content_at (cells_only es) q)
unfolding content_at
found_held es q h =
    elim (find place_cmp q es) as (λ (o : Option Content). is_formula (unwrap_or o content.Empty) ≡ true → o ≡ Some (unwrap_or o content.Empty)) [
      | None ↦ λ none. cc
      | Some c ↦ λ _. refl
    ] h

a_formula : (codes : Codes) (q : Place) (x : Slot) → is_formula (content_of codes q x) ≡ true → (id : ℕ) × (x ≡ slot.Formula id)
a_formula codes q slot.Empty h = cc
a_formula codes q (slot.Number n) h = cc
a_formula codes q (slot.Words text) h = cc
a_formula codes q (slot.Bad fault) h = cc
a_formula codes q (slot.Raw text) h = cc
a_formula codes q (slot.Formula id) h = (id, refl)

module _ (codes : Codes) (columns : List Column) (sheets : AreSheets codes columns) where
  all_formulas : AllByRecursion (Holds codes columns) (all_coded 0 (map codes_in columns))
  all_formulas = columns_so (Holds codes columns) 0 columns is_one
    where
      no_number : (n : ℕ) → 0 + n ≡ n
      no_number n = omega arith

      is_one : (k i id : ℕ) → k < length columns → slice_index_or (slice_index_or columns k []) i slot.Empty ≡ slot.Formula id → i < length (slice_index_or columns k []) → Holds codes columns (cell_in (0 + k) (1 + i))
      is_one k i id among is within =
          let number : k < COLUMNS = omega (arith, among, sheets.all_columns) in
          let inside : i < LAST_ROW = omega (arith, within, sheets.all_rows k number) in
          let q : Place = cell_in (0 + k) (1 + i) in
          let place : IsPlace q = place_in (0 + k) i (omega (arith, number)) inside in
          let here : slot_at columns q ≡ slot.Formula id = ap (λ n. slice_index_or (column_at columns n) (1 + i - 1) slot.Empty) (number_of (0 + k) i) ∙ ap (λ n. slice_index_or (column_at columns (0 + k)) n slot.Empty) (row_behind i) ∙ ap (λ n. slice_index_or (column_at columns n) i slot.Empty) (no_number k) ∙ is in
          ap is_formula (holds codes columns q place ∙ ap (content_of codes q) here)

  formula_among : (q : Place) → Holds codes columns q → Contains (all_coded 0 (map codes_in columns)) q
  formula_among q h =
      let entry = entry_found (cells_of codes columns) (entries_are codes columns sheets) q (content_at (cells_only (cells_of codes columns)) q) (found_held (cells_of codes columns) q h) in
      let place : IsPlace q = tested_place q entry.0 in
      let coded = a_formula codes q (slot_at columns q) (ap is_formula (sym (holds codes columns q place)) ∙ h) in
      let n : ℕ = column_number q in
      let among : n < length columns = omega (arith, number_in q place, sheets.all_columns) in
      let row : Contains (coded_rows (0 + n) 1 (codes_in (column_at columns n))) (cell_in (0 + n) (1 + (q.row - 1))) = row_among (0 + n) 1 (q.row - 1) (column_at columns n) coded.0 coded.1 in
      column_among 0 n columns q among
      (subst (λ (ps : List Place). Contains ps q) (sym (by_rows (0 + n) (codes_in (column_at columns n))))
      (subst (λ (p : Place). Contains (coded_rows (0 + n) 1 (codes_in (column_at columns n))) p) (sym (place_is q place)) row))

  pub exactly_formulas : (q : Place) → Contains (all_coded 0 (map codes_in columns)) q ↔ Holds codes columns q
  exactly_formulas q = (
    λ there. All-contains (Holds codes columns) (all_coded 0 (map codes_in columns)) q (All-from_recursion (Holds codes columns) (all_coded 0 (map codes_in columns)) all_formulas) there,
    formula_among q,
  )

-- Columns, codes and groups in which a cell is set.
use Rattle.std.proofs.Common.{◌≡◌, ℕ, suc, zero, ◌+◌, ◌-◌, ◌≤◌, ◌<◌, true, false, cond, List, [], ◌∷◌, length, Option, Some, map, unwrap_or, refl, sym, ap, subst, ◌∙◌, arith}
use Rattle.std.specs.Prelude.{count_by, slice_get, slice_index_or, slice_set, sum_by}
use Rattle.std.proofs.lemmas.List.Recursion.{is_count_by}
use Rattle.std.proofs.lemmas.List.Sums.{get_or-le-sum_by, sum_by-cons}
use Rattle.calc_addr.specs.declared.cell.TheConstants.{LAST_ROW}
use Rattle.calc_addr.specs.Places.{IsPlace, Place}
use Rattle.calc_model.specs.declared.content.Content.{Content}
use Rattle.calc_model.specs.declared.limits.TheConstants.{MOST_CELLS}
use Rattle.calc_model.specs.Books.{with_content}
use Rattle.formula_code.specs.Codes.{Codes}
use Rattle.block_column.specs.declared.slot.Slot.{Slot}
use Rattle.block_column.specs.declared.slot.Slot.TheVariants as slot
use Rattle.block_column.specs.Kinds.{is_filled}
use Rattle.block_column.specs.SlotRows.{SlotRows}
use Rattle.formula_groups.specs.GroupRows.{GroupRows}
use Rattle.kept_codes.specs.declared.cells.TheConstants.{COLUMNS}
use Rattle.cell_columns.specs.Cells.{Column, cells_of, column_at, column_number, slot_at, with_code, with_slot}
use Rattle.cell_columns.specs.Lent.{AreColumns, codes_of, slots_of}
use Rattle.cell_columns.specs.Sheets.{AreSheets}
use Rattle.cell_columns.specs.Taken.{AreReturned, IsSlotOf}
use Rattle.cell_columns.specs.Uses.{cell_of, code_in, codes_in, summed}
use Rattle.cell_columns.proofs.Counted.{counted}
use Rattle.cell_columns.proofs.Groups.{codes_at, grouped_put}
use Rattle.cell_columns.proofs.Maps.{index_any, length_map, map_at, map_set}
use Rattle.cell_columns.proofs.PutSlot.{rows_put, summed_put}
use Rattle.cell_columns.proofs.Edited.{number_in}
use Rattle.cell_columns.proofs.SetCell.{cells_set, sheets_set}

-- the cells of a column that aren't empty, counted and summed
pub count_is_sum : (c : Column) → sum_by cell_of c ≡ count_by is_filled c
count_is_sum = is_count_by (sum_by cell_of) is_filled refl step
  where
    step : (x : Slot) (xs : Column) → sum_by cell_of (x ∷ xs) ≡ cond (is_filled x) (1 + sum_by cell_of xs) (sum_by cell_of xs)
    step x xs = sum_by-cons cell_of x xs ∙ elim (is_filled x) as (λ b. cond b 1 0 + sum_by cell_of xs ≡ cond b (1 + sum_by cell_of xs) (sum_by cell_of xs)) [ true ↦ refl | false ↦ omega arith ]

-- a column that is seen with a slot more
pub seen_put : (columns : List SlotRows) (n : ℕ) (new d : SlotRows) (cell : Place) (x : Slot) → n ≡ column_number cell → n < length columns → d ≡ slice_index_or columns n d → new.slots ≡ slice_set d.slots (cell.row - 1) x → slots_of (slice_set columns n new) ≡ with_slot (slots_of columns) cell x
seen_put columns n new d cell x number inside held put =
    map_set (λ (c : SlotRows). c.slots) columns n new
    ∙ ap (slice_set (slots_of columns) n) (put ∙ ap (λ s. slice_set s (cell.row - 1) x) (ap (λ (c : SlotRows). c.slots) held ∙ map_at (λ (c : SlotRows). c.slots) columns n d ∙ index_any (slots_of columns) n d.slots [] (subst (λ k. n < k) (sym (length_map (λ (c : SlotRows). c.slots) columns)) inside)))
    ∙ ap (λ k. slice_set (slots_of columns) k (slice_set (column_at (slots_of columns) k) (cell.row - 1) x)) number

pub seen_code : (groups : List GroupRows) (n : ℕ) (new d : GroupRows) (cell : Place) (code : Option ℕ) → n ≡ column_number cell → n < length groups → d ≡ slice_index_or groups n d → new.entries ≡ slice_set d.entries (cell.row - 1) code → codes_of (slice_set groups n new) ≡ with_code (codes_of groups) cell code
seen_code groups n new d cell code number inside held put =
    map_set (λ (g : GroupRows). g.entries) groups n new
    ∙ ap (slice_set (codes_of groups) n) (put ∙ ap (λ s. slice_set s (cell.row - 1) code) (ap (λ (g : GroupRows). g.entries) held ∙ map_at (λ (g : GroupRows). g.entries) groups n d ∙ index_any (codes_of groups) n d.entries [] (subst (λ k. n < k) (sym (length_map (λ (g : GroupRows). g.entries) groups)) inside)))
    ∙ ap (λ k. slice_set (codes_of groups) k (slice_set (slice_index_or (codes_of groups) k []) (cell.row - 1) code)) number

pub formula_coded : (x : Slot) (id : ℕ) → code_in x ≡ Some id → x ≡ slot.Formula id
formula_coded slot.Empty id is = cc
formula_coded (slot.Number n) id is = cc
formula_coded (slot.Words text) id is = cc
formula_coded (slot.Bad fault) id is = cc
formula_coded (slot.Raw text) id is = cc
formula_coded (slot.Formula other) id is = ap slot.Formula (ap (λ o. unwrap_or o other) is)

-- the code of a cell by the groups of its column
pub code_there : (columns : List Column) (groups : List (List (Option ℕ))) (cell : Place) (code : Option ℕ) → groups ≡ map codes_in columns → Some code ≡ slice_get (slice_index_or groups (column_number cell) []) (cell.row - 1) → code_in (slot_at columns cell) ≡ code
code_there columns groups cell code is found =
    in_column (column_at columns (column_number cell)) (cell.row - 1) (found ∙ ap (λ c. slice_get c (cell.row - 1)) (ap (λ gs. slice_index_or gs (column_number cell) []) is ∙ codes_at columns (column_number cell)))
  where
    in_column : (c : Column) (i : ℕ) → Some code ≡ slice_get (codes_in c) i → code_in (slice_index_or c i slot.Empty) ≡ code
    in_column [] i h = cc
    in_column (x ∷ c) zero h = sym (ap (λ o. unwrap_or o code) h)
    in_column (x ∷ c) (suc i) h = in_column c i h

-- a cell's row is one of the groups of its column
pub row_there : (columns : List Column) (groups : List GroupRows) (cell : Place) → IsPlace cell → length columns ≡ COLUMNS → ((number : ℕ) → number < COLUMNS → length (column_at columns number) ≡ LAST_ROW) → codes_of groups ≡ map codes_in columns → (d : GroupRows) → cell.row - 1 < length (slice_index_or groups (column_number cell) d).entries
row_there columns groups cell is all rows grouped d =
    let n : ℕ = column_number cell in
    let many : length (codes_of groups) ≡ COLUMNS = ap length grouped ∙ length_map codes_in columns ∙ all in
    let seen : (slice_index_or groups n d).entries ≡ codes_in (column_at columns n) =
    map_at (λ (g : GroupRows). g.entries) groups n d
    ∙ index_any (codes_of groups) n d.entries [] (subst (λ k. n < k) (sym many) (number_in cell is))
    ∙ ap (λ gs. slice_index_or gs n []) grouped
    ∙ codes_at columns n in
    let long : length (slice_index_or groups n d).entries ≡ LAST_ROW = ap length seen ∙ length_map code_in (column_at columns n) ∙ rows n (number_in cell is) in
    omega (arith, long, is.row_from, is.row_to)

module _ (old mid new : Codes) (before after : List SlotRows) (groups groups_after : List GroupRows) (len : ℕ) (was : AreColumns old before groups len) (cell : Place) (is : IsPlace cell) (content : Content) (x : Slot) (put : IsSlotOf old mid cell content x) (returned : AreReturned mid new (slot_at (slots_of before) cell ∷ [])) (slots : slots_of after ≡ with_slot (slots_of before) cell x) (codes : codes_of groups_after ≡ with_code (codes_of groups) cell (code_in x)) (fits : length (with_content (cells_of old (slots_of before)) cell content) ≤ MOST_CELLS) where
  pub seen_set : cells_of new (slots_of after) ≡ with_content (cells_of old (slots_of before)) cell content
  seen_set = ap (cells_of new) slots ∙ cells_set old mid new (slots_of before) was.sheets cell is content x put returned was.few fits

  pub still_columns : (now : ℕ) → now + cell_of (slot_at (slots_of before) cell) ≡ len + cell_of x → AreColumns new after groups_after now
  still_columns now changed = record {
    sheets = subst (AreSheets new) (sym slots) (sheets_set old mid new (slots_of before) was.sheets cell is content x put returned);
    grouped = codes ∙ grouped_put (slots_of before) (codes_of groups) cell x was.grouped ∙ ap (map codes_in) (sym slots);
    few = subst (λ es. length es ≤ MOST_CELLS) (sym seen_set) fits;
    counted = omega (arith, changed, was.counted, counted old (slots_of before), counted new (slots_of after), ap (summed cell_of) slots, summed_put (slots_of before) was.sheets.all_columns was.sheets.all_rows cell is x cell_of);
  }

  abbrev pub used_in : List SlotRows → ℕ
  used_in columns = count_by is_filled (column_at (slots_of columns) (column_number cell))

  at_most_one : (y : Slot) → cell_of y ≤ 1
  at_most_one y = elim (is_filled y) as (λ b. cond b 1 0 ≤ 1) [ true ↦ omega arith | false ↦ omega arith ]

  column_changed : used_in after + cell_of (slot_at (slots_of before) cell) ≡ used_in before + cell_of x
  column_changed =
      omega (
        arith,
        count_is_sum (column_at (slots_of after) (column_number cell)),
        count_is_sum (column_at (slots_of before) (column_number cell)),
        ap (λ cs. sum_by cell_of (column_at cs (column_number cell))) slots,
        rows_put (slots_of before) was.sheets.all_columns was.sheets.all_rows cell is x cell_of,
      )

  pub column_few : used_in before ≤ len
  column_few =
      omega (
        arith,
        was.counted,
        counted old (slots_of before),
        count_is_sum (column_at (slots_of before) (column_number cell)),
        get_or-le-sum_by (λ c. sum_by cell_of c) (slots_of before) (column_number cell) [] (subst (λ n. column_number cell < n) (sym was.sheets.all_columns) (number_in cell is)),
      )

  pub sum_fits : len + used_in after ≤ MOST_CELLS + MOST_CELLS + 1
  sum_fits = omega (arith, was.few, was.counted, column_few, column_changed, at_most_one x)

  pub counted_now : len + used_in after - used_in before + cell_of (slot_at (slots_of before) cell) ≡ len + cell_of x
  counted_now = omega (arith, column_few, column_changed)

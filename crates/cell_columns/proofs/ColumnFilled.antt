-- A column of a book, with its groups and codes, of which rows below a cell are filled with copies of a slot.
use Rattle.std.proofs.Common.{◌≡◌, ℕ, ◌+◌, ◌-◌, ◌≤◌, ◌<◌, ◌==◌, true, false, cond, List, [], ◌++◌, length, take, drop, map, replicate, refl, sym, ap, subst, ◌∙◌, arith}
use Rattle.std.specs.Prelude.{count_by, slice_index_or, slice_set, sum_by}
use Rattle.std.proofs.lemmas.List.{length-replicate}
use Rattle.std.proofs.lemmas.List.Sums.{get_or-le-sum_by, sum_by-le-sum_by}
use Rattle.calc_addr.specs.declared.cell.TheConstants.{LAST_ROW}
use Rattle.calc_addr.specs.Places.{IsPlace, Place}
use Rattle.calc_model.specs.declared.limits.TheConstants.{MOST_CELLS}
use Rattle.calc_model.specs.CellEdits.{with_entries}
use Rattle.run_tables.specs.Rows.{AreRows, rows_set}
use Rattle.formula_code.specs.Codes.{Codes, IsLive, IsSame, code_at, uses_at}
use Rattle.formula_groups.specs.GroupRows.{GroupRows}
use Rattle.block_column.specs.declared.slot.Slot.{Slot}
use Rattle.block_column.specs.declared.slot.Slot.TheVariants as slot
use Rattle.block_column.specs.Kinds.{is_filled}
use Rattle.block_column.specs.SlotRows.{SlotRows}
use Rattle.cell_columns.specs.Cells.{Column, cells_of, column_at, column_number, rows_put, with_rows}
use Rattle.cell_columns.specs.Filled.{FitsRows, repeated}
use Rattle.cell_columns.specs.Lent.{AreColumns, codes_of, slots_of}
use Rattle.cell_columns.specs.Sheets.{AreSheets}
use Rattle.cell_columns.specs.Taken.{AreReplaced}
use Rattle.cell_columns.specs.Uses.{cell_of, codes_in, formula_of, formulas_in, summed, use_of, uses_in}
use Rattle.cell_columns.proofs.Clearing.{column_is, entries_are_codes}
use Rattle.cell_columns.proofs.Counted.{counted}
use Rattle.cell_columns.proofs.Edited.{number_in}
use Rattle.cell_columns.proofs.FilledRows.{cells_filled, few_filled, sheets_filled}
use Rattle.cell_columns.proofs.Groups.{codes_put}
use Rattle.cell_columns.proofs.Maps.{index_any, length_map, map_same, map_set}
use Rattle.cell_columns.proofs.PutRows.{sum_rows, summed_rows}
use Rattle.cell_columns.proofs.Same.{columns_same, formulas_few}
use Rattle.cell_columns.proofs.Setting.{count_is_sum}

rows_are : {X : Type 0} (a n : ℕ) (x : X) (c : List X) → rows_set a n x c ≡ rows_put a (replicate n x) c
rows_are a n x c = ap (λ k. take a c ++ (replicate n x ++ drop (a + k) c)) (sym (length-replicate n x))

use_is_formula : (id : ℕ) (x : Slot) → use_of id x ≤ formula_of x
use_is_formula id slot.Empty = omega arith
use_is_formula id (slot.Number n) = omega arith
use_is_formula id (slot.Words text) = omega arith
use_is_formula id (slot.Bad fault) = omega arith
use_is_formula id (slot.Raw text) = omega arith
use_is_formula id (slot.Formula other) = elim (id == other) as (λ b. cond b 1 0 ≤ 1) [ true ↦ omega arith | false ↦ omega arith ]

uses_few : (id : ℕ) (columns : List Column) → uses_in id columns ≤ formulas_in columns
uses_few id columns = sum_by-le-sum_by (λ c. sum_by (use_of id) c) (λ c. sum_by formula_of c) columns (λ c. sum_by-le-sum_by (use_of id) formula_of c (use_is_formula id))

-- the code of a slot that fits is live
pub live_below : (codes : Codes) (cell : Place) → IsPlace cell → (last : ℕ) → AreRows (cell.row + 1) last → (x : Slot) → FitsRows codes cell (cell.row + 1) last x → (id : ℕ) → x ≡ slot.Formula id → IsLive codes id
live_below codes cell is last rows x fits id formula = ((fits below at_below refl (omega arith) rows.in_order).coded id formula).live
  where
    below : Place
    below = record { sheet = cell.sheet; col = cell.col; row = cell.row + 1 }

    at_below : IsPlace (record { sheet = cell.sheet; col = cell.col; row = cell.row + 1 })
    at_below = record { sheet_in = is.sheet_in; col_from = is.col_from; col_to = is.col_to; row_from = omega arith; row_to = omega (arith, rows.in_order, rows.to) }

module _ (codes : Codes) (columns : List SlotRows) (groups : List GroupRows) (len : ℕ) (was : AreColumns codes columns groups len) (cell : Place) (is : IsPlace cell) (d : SlotRows) (d_is : d ≡ slice_index_or columns (column_number cell) d) (g : GroupRows) (g_is : g ≡ slice_index_or groups (column_number cell) g) where
  abbrev number : ℕ
  number = column_number cell

  many : column_number cell < length columns
  many = omega (arith, number_in cell is, length_map (λ (x : SlotRows). x.slots) columns, was.sheets.all_columns)

  many_groups : column_number cell < length groups
  many_groups = omega (arith, number_in cell is, length_map (λ (x : GroupRows). x.entries) groups, ap length was.grouped, length_map codes_in (slots_of columns), was.sheets.all_columns)

  slots_are : d.slots ≡ column_at (slots_of columns) (column_number cell)
  slots_are = column_is columns number d many d_is

  pub grouped_here : g.entries ≡ codes_in d.slots
  grouped_here = entries_are_codes (slots_of columns) groups number g many_groups was.grouped g_is ∙ ap codes_in (sym slots_are)

  among : column_number cell < length (slots_of columns)
  among = subst (λ k. number < k) (sym was.sheets.all_columns) (number_in cell is)

  pub uses_here : (id : ℕ) → sum_by (use_of id) d.slots ≤ uses_at codes id
  uses_here id =
      omega (
        arith,
        ap (sum_by (use_of id)) slots_are,
        get_or-le-sum_by (λ c. sum_by (use_of id) c) (slots_of columns) number [] among,
        was.sheets.used id,
      )

  pub few_uses : (id : ℕ) → uses_at codes id ≤ MOST_CELLS
  few_uses id = omega (arith, was.sheets.used id, uses_few id (slots_of columns), formulas_few (slots_of columns), counted codes (slots_of columns), was.few)

  -- the cells of the column are among all
  pub used_few : count_by is_filled d.slots ≤ len
  used_few =
      omega (
        arith,
        was.counted,
        counted codes (slots_of columns),
        ap (count_by is_filled) slots_are,
        count_is_sum (column_at (slots_of columns) number),
        get_or-le-sum_by (λ c. sum_by cell_of c) (slots_of columns) number [] among,
      )

  module _ (last : ℕ) (rows : AreRows (cell.row + 1) last) (room : len + (last - cell.row) ≤ MOST_CELLS) (x : Slot) (filled : is_filled x ≡ true) (fits : FitsRows codes cell (cell.row + 1) last x) where
    abbrev n : ℕ
    n = last + 1 - (cell.row + 1)

    abbrev a : ℕ
    a = cell.row + 1 - 1

    abbrev xs : Column
    xs = replicate n x

    few : length (cells_of codes (slots_of columns)) + (last - cell.row) ≤ MOST_CELLS
    few = omega (arith, room, was.counted)

    fit : a + length xs ≤ LAST_ROW
    fit = omega (arith, rows.in_order, rows.to, length-replicate n x)

    module _ (new : Codes) (left : SlotRows) (left_is : left.slots ≡ rows_set (cell.row + 1 - 1) (last + 1 - (cell.row + 1)) x d.slots) (grouping : GroupRows) (grouping_is : grouping.entries ≡ codes_in left.slots) (replaced : AreReplaced codes new (replicate (last + 1 - (cell.row + 1)) x) (take (last + 1 - (cell.row + 1)) (drop (cell.row + 1 - 1) d.slots))) where
      replaced_at : AreReplaced codes new xs (take n (drop a (column_at (slots_of columns) number)))
      replaced_at = subst (λ (c : Column). AreReplaced codes new xs (take n (drop a c))) slots_are replaced

      slots_after : slots_of (slice_set columns number left) ≡ with_rows (slots_of columns) number a xs
      slots_after =
          map_set (λ (x : SlotRows). x.slots) columns number left
          ∙ ap (slice_set (slots_of columns) number) (left_is ∙ rows_are a n x d.slots ∙ ap (rows_put a xs) slots_are)

      codes_after : codes_of (slice_set groups number grouping) ≡ map codes_in (slots_of (slice_set columns number left))
      codes_after =
          map_set (λ (x : GroupRows). x.entries) groups number grouping
          ∙ ap (λ gs. slice_set gs number grouping.entries) was.grouped
          ∙ ap (slice_set (map codes_in (slots_of columns)) number) grouping_is
          ∙ sym (codes_put (slots_of columns) number left.slots)
          ∙ ap (map codes_in) (sym (map_set (λ (x : SlotRows). x.slots) columns number left))

      pub cells_after : cells_of new (slots_of (slice_set columns (column_number cell) left)) ≡ with_entries (cells_of codes (slots_of columns)) (repeated codes cell (cell.row + 1) last x)
      cells_after = ap (cells_of new) slots_after ∙ cells_filled codes new (slots_of columns) was.sheets cell is last rows few x filled fits replaced_at

      few_after : length (cells_of new (slots_of (slice_set columns number left))) ≤ MOST_CELLS
      few_after = omega (arith, ap (λ cs. length (cells_of new cs)) slots_after, few_filled codes new (slots_of columns) was.sheets cell is last rows few x filled fits replaced_at)

      column_after : sum_by cell_of left.slots + sum_by cell_of (take (length xs) (drop a d.slots)) ≡ sum_by cell_of d.slots + sum_by cell_of xs
      column_after =
          ap (λ c. sum_by cell_of c + sum_by cell_of (take (length xs) (drop a d.slots))) (left_is ∙ rows_are a n x d.slots)
          ∙ sum_rows a xs d.slots (omega (arith, fit, ap length slots_are, was.sheets.all_rows number (number_in cell is))) cell_of

      all_after : summed cell_of (slots_of (slice_set columns number left)) + sum_by cell_of (take (length xs) (drop a d.slots)) ≡ summed cell_of (slots_of columns) + sum_by cell_of xs
      all_after =
          ap (λ cs. summed cell_of cs + sum_by cell_of (take (length xs) (drop a d.slots))) slots_after
          ∙ ap (λ (c : Column). summed cell_of (with_rows (slots_of columns) number a xs) + sum_by cell_of (take (length xs) (drop a c))) slots_are
          ∙ summed_rows (slots_of columns) was.sheets.all_columns was.sheets.all_rows number (number_in cell is) a xs fit cell_of

      pub counted_after : len + count_by is_filled left.slots - count_by is_filled d.slots ≡ length (cells_of new (slots_of (slice_set columns (column_number cell) left)))
      counted_after =
          omega (
            arith,
            was.counted,
            used_few,
            column_after,
            all_after,
            count_is_sum d.slots,
            count_is_sum left.slots,
            counted codes (slots_of columns),
            counted new (slots_of (slice_set columns number left)),
          )

      pub used_after : count_by is_filled left.slots ≤ MOST_CELLS + len
      used_after = omega (arith, counted_after, few_after, used_few)

      pub columns_after : AreColumns new (slice_set columns (column_number cell) left) (slice_set groups (column_number cell) grouping) (len + count_by is_filled left.slots - count_by is_filled d.slots)
      columns_after = record {
        sheets = subst (AreSheets new) (sym slots_after) (sheets_filled codes new (slots_of columns) was.sheets cell is last rows few x filled fits replaced_at);
        grouped = codes_after;
        few = few_after;
        counted = counted_after;
      }

-- what holds of the column with that number before its rows are filled
pub record IsReady (codes : Codes) (columns : List SlotRows) (len : ℕ) (d : SlotRows) (g : GroupRows) : Type 0 where
  pub grouped : g.entries ≡ codes_in d.slots
  pub uses : (id : ℕ) → sum_by (use_of id) d.slots ≤ uses_at codes id
  pub few : (id : ℕ) → uses_at codes id ≤ MOST_CELLS
  pub used : count_by is_filled d.slots ≤ len

pub is_ready : (codes : Codes) (columns : List SlotRows) (groups : List GroupRows) (len : ℕ) → AreColumns codes columns groups len → (cell : Place) → IsPlace cell → (k : ℕ) → k ≡ column_number cell → (d : SlotRows) → d ≡ slice_index_or columns k d → (g : GroupRows) → g ≡ slice_index_or groups k g → IsReady codes columns len d g
is_ready codes columns groups len was cell is k k_is d d_is g g_is =
    let d_at : d ≡ slice_index_or columns (column_number cell) d = d_is ∙ ap (λ n. slice_index_or columns n d) k_is in
    let g_at : g ≡ slice_index_or groups (column_number cell) g = g_is ∙ ap (λ n. slice_index_or groups n g) k_is in
    record {
      grouped = grouped_here codes columns groups len was cell is d d_at g g_at;
      uses = uses_here codes columns groups len was cell is d d_at g g_at;
      few = few_uses codes columns groups len was cell is d d_at g g_at;
      used = used_few codes columns groups len was cell is d d_at g g_at;
    }

-- and after they are
pub record AreAfter (codes new : Codes) (columns : List SlotRows) (groups : List GroupRows) (len : ℕ) (cell : Place) (k last : ℕ) (x : Slot) (d left : SlotRows) (grouping : GroupRows) : Type 0 where
  pub are : AreColumns new (slice_set columns k left) (slice_set groups k grouping) (len + count_by is_filled left.slots - count_by is_filled d.slots)
  pub cells : cells_of new (slots_of (slice_set columns k left)) ≡ with_entries (cells_of codes (slots_of columns)) (repeated codes cell (cell.row + 1) last x)
  pub used : count_by is_filled left.slots ≤ MOST_CELLS + len

pub are_after : (codes new : Codes) (columns : List SlotRows) (groups : List GroupRows) (len : ℕ) → AreColumns codes columns groups len → (cell : Place) → IsPlace cell → (k : ℕ) → k ≡ column_number cell → (d : SlotRows) → d ≡ slice_index_or columns k d → (g : GroupRows) → g ≡ slice_index_or groups k g → (last : ℕ) → AreRows (cell.row + 1) last → len + (last - cell.row) ≤ MOST_CELLS → (x : Slot) → is_filled x ≡ true → FitsRows codes cell (cell.row + 1) last x → (left : SlotRows) → left.slots ≡ rows_set (cell.row + 1 - 1) (last + 1 - (cell.row + 1)) x d.slots → (grouping : GroupRows) → grouping.entries ≡ codes_in left.slots → AreReplaced codes new (replicate (last + 1 - (cell.row + 1)) x) (take (last + 1 - (cell.row + 1)) (drop (cell.row + 1 - 1) d.slots)) → AreAfter codes new columns groups len cell k last x d left grouping
are_after codes new columns groups len was cell is k k_is d d_is g g_is last rows room x filled fits left left_is grouping grouping_is replaced =
    let d_at : d ≡ slice_index_or columns (column_number cell) d = d_is ∙ ap (λ n. slice_index_or columns n d) k_is in
    let g_at : g ≡ slice_index_or groups (column_number cell) g = g_is ∙ ap (λ n. slice_index_or groups n g) k_is in
    subst (λ n. AreAfter codes new columns groups len cell n last x d left grouping) (sym k_is) (record {
      are = columns_after codes columns groups len was cell is d d_at g g_at last rows room x filled fits new left left_is grouping grouping_is replaced;
      cells = cells_after codes columns groups len was cell is d d_at g g_at last rows room x filled fits new left left_is grouping grouping_is replaced;
      used = used_after codes columns groups len was cell is d d_at g g_at last rows room x filled fits new left left_is grouping grouping_is replaced;
    })

-- a column that is seen as before
pub columns_kept : (codes new : Codes) → new ≡ codes → (columns : List SlotRows) (groups : List GroupRows) (len : ℕ) → AreColumns codes columns groups len → (k : ℕ) (d : SlotRows) → d ≡ slice_index_or columns k d → (g : GroupRows) → g ≡ slice_index_or groups k g → (left : SlotRows) → left.slots ≡ d.slots → (grouping : GroupRows) → grouping.entries ≡ g.entries → AreColumns new (slice_set columns k left) (slice_set groups k grouping) len × (cells_of new (slots_of (slice_set columns k left)) ≡ cells_of codes (slots_of columns))
columns_kept codes new same columns groups len was k d d_is g g_is left left_is grouping grouping_is =
    let slots : slots_of (slice_set columns k left) ≡ slots_of columns = map_same (λ (c : SlotRows). c.slots) columns k left d (left_is ∙ ap (λ (c : SlotRows). c.slots) d_is) in
    let entries : codes_of (slice_set groups k grouping) ≡ codes_of groups = map_same (λ (c : GroupRows). c.entries) groups k grouping g (grouping_is ∙ ap (λ (c : GroupRows). c.entries) g_is) in
    let all_same : IsSame codes new = λ id. ap (λ cs. code_at cs id) same in
    (columns_same codes new all_same columns (slice_set columns k left) groups (slice_set groups k grouping) len slots entries was, ap (cells_of new) slots ∙ ap (λ cs. cells_of cs (slots_of columns)) same)

-- one item of a list, however it is looked up
pub same_item : {X : Type 0} (xs : List X) (k : ℕ) → k < length xs → (d e : X) → d ≡ slice_index_or xs k d → e ≡ slice_index_or xs k e → d ≡ e
same_item xs k h d e d_is e_is = d_is ∙ index_any xs k d e h ∙ sym e_is

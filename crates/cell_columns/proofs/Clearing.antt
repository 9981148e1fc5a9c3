-- A column that is emptied between two rows, with its groups and codes.
use Rattle.std.proofs.Common.{◌≡◌, ℕ, suc, zero, ◌+◌, ◌-◌, ◌≤◌, ◌<◌, List, [], ◌∷◌, ◌++◌, length, take, drop, map, not, replicate, None, refl, sym, ap, subst, ◌∙◌, arith}
use Rattle.std.specs.Prelude.{count_by, slice_index_or, slice_set, sum_by}
use Rattle.std.proofs.lemmas.List.{length-replicate}
use Rattle.std.proofs.lemmas.List.Folds.{sum_by-replicate}
use Rattle.std.proofs.lemmas.List.Sums.{get_or-le-sum_by, sum_by-take-drop, sum_by-take-le}
use Rattle.calc_addr.specs.declared.cell.TheConstants.{LAST_ROW}
use Rattle.calc_model.proofs.EntriesMoved.{length-filter}
use Rattle.run_tables.specs.Rows.{AreRows, rows_set}
use Rattle.formula_code.specs.Codes.{Codes, uses_at}
use Rattle.formula_groups.specs.declared.group.Group.{Group}
use Rattle.formula_groups.specs.GroupRows.{GroupRows}
use Rattle.formula_groups.specs.Groups.{groups_of}
use Rattle.block_column.specs.declared.slot.Slot.TheVariants as slot
use Rattle.block_column.specs.Kinds.{is_filled}
use Rattle.block_column.specs.SlotRows.{SlotRows}
use Rattle.kept_codes.specs.declared.cells.TheConstants.{COLUMNS}
use Rattle.cell_columns.specs.Cells.{Column, cells_of, column_at, rows_put, with_rows}
use Rattle.cell_columns.specs.Emptied.{lies_in, without_rows}
use Rattle.cell_columns.specs.Freed.{formulas_among, uses_among}
use Rattle.cell_columns.specs.Lent.{AreColumns, codes_of, slots_of}
use Rattle.cell_columns.specs.Sheets.{AreSheets}
use Rattle.cell_columns.specs.Taken.{AreFreed, AreReturned}
use Rattle.cell_columns.specs.Uses.{cell_of, code_in, codes_in, summed, use_of}
use Rattle.cell_columns.proofs.Among.{formulas_alike, uses_alike}
use Rattle.cell_columns.proofs.Counted.{counted}
use Rattle.cell_columns.proofs.EmptyRows.{cells_emptied, sheets_emptied}
use Rattle.cell_columns.proofs.Groups.{codes_at, codes_put}
use Rattle.cell_columns.proofs.Maps.{index_any, length_map, map_at, map_set}
use Rattle.cell_columns.proofs.PutRows.{column_put, sum_rows, summed_rows}
use Rattle.cell_columns.proofs.Setting.{count_is_sum}

pub column_is : (columns : List SlotRows) (n : ℕ) (d : SlotRows) → n < length columns → d ≡ slice_index_or columns n d → d.slots ≡ column_at (slots_of columns) n
column_is columns n d inside is =
    ap (λ (c : SlotRows). c.slots) is
    ∙ map_at (λ (c : SlotRows). c.slots) columns n d
    ∙ index_any (slots_of columns) n d.slots [] (subst (λ k. n < k) (sym (length_map (λ (c : SlotRows). c.slots) columns)) inside)

pub entries_are_codes : (columns : List Column) (groups : List GroupRows) (n : ℕ) (g : GroupRows) → n < length groups → codes_of groups ≡ map codes_in columns → g ≡ slice_index_or groups n g → g.entries ≡ codes_in (column_at columns n)
entries_are_codes columns groups n g inside grouped is =
    ap (λ (c : GroupRows). c.entries) is
    ∙ map_at (λ (c : GroupRows). c.entries) groups n g
    ∙ index_any (codes_of groups) n g.entries [] (subst (λ k. n < k) (sym (length_map (λ (c : GroupRows). c.entries) groups)) inside)
    ∙ ap (λ gs. slice_index_or gs n []) grouped
    ∙ codes_at columns n

pub codes-append : (c d : Column) → codes_in (c ++ d) ≡ codes_in c ++ codes_in d
codes-append [] d = refl
codes-append (x ∷ c) d = ap (λ t. code_in x ∷ t) (codes-append c d)

pub codes-take : (n : ℕ) (c : Column) → codes_in (take n c) ≡ take n (codes_in c)
codes-take zero [] = refl
codes-take zero (x ∷ c) = refl
codes-take (suc n) [] = refl
codes-take (suc n) (x ∷ c) = ap (λ t. code_in x ∷ t) (codes-take n c)

pub codes-drop : (n : ℕ) (c : Column) → codes_in (drop n c) ≡ drop n (codes_in c)
codes-drop zero [] = refl
codes-drop zero (x ∷ c) = refl
codes-drop (suc n) [] = refl
codes-drop (suc n) (x ∷ c) = codes-drop n c

pub no_codes_in : (n : ℕ) → codes_in (replicate n slot.Empty) ≡ replicate n None
no_codes_in zero = refl
no_codes_in (suc n) = ap (λ t. None ∷ t) (no_codes_in n)

-- empty rows have no codes
codes_emptied : (a n : ℕ) (c : Column) → codes_in (rows_put a (replicate n slot.Empty) c) ≡ rows_set a n None (codes_in c)
codes_emptied a n c =
    let xs : Column = replicate n slot.Empty in
    codes-append (take a c) (xs ++ drop (a + length xs) c)
    ∙ ap (λ t. t ++ codes_in (xs ++ drop (a + length xs) c)) (codes-take a c)
    ∙ ap (λ t. take a (codes_in c) ++ t) (codes-append xs (drop (a + length xs) c) ∙ ap (λ t. t ++ codes_in (drop (a + length xs) c)) (no_codes_in n) ∙ ap (λ t. replicate n None ++ t) (codes-drop (a + length xs) c ∙ ap (λ k. drop (a + k) (codes_in c)) (length-replicate n slot.Empty)))

rows_emptied : (a n : ℕ) (c : Column) → rows_set a n slot.Empty c ≡ rows_put a (replicate n slot.Empty) c
rows_emptied a n c = ap (λ k. take a c ++ (replicate n slot.Empty ++ drop (a + k) c)) (sym (length-replicate n slot.Empty))

module _ (codes : Codes) (columns : List SlotRows) (groups : List GroupRows) (len : ℕ) (was : AreColumns codes columns groups len) (number : ℕ) (among : number < COLUMNS) (first last : ℕ) (rows : AreRows first last) (d : SlotRows) (is : d ≡ slice_index_or columns number d) (g : GroupRows) (g_is : g ≡ slice_index_or groups number g) where
  abbrev before : List Column
  before = slots_of columns

  abbrev c : Column
  c = column_at (slots_of columns) number

  pub many : number < length columns
  many = subst (λ n. number < n) (sym (sym (length_map (λ (x : SlotRows). x.slots) columns) ∙ was.sheets.all_columns)) among

  many_groups : number < length groups
  many_groups = subst (λ n. number < n) (sym (sym (length_map (λ (x : GroupRows). x.entries) groups) ∙ ap length was.grouped ∙ length_map codes_in (slots_of columns) ∙ was.sheets.all_columns)) among

  pub slots_are : d.slots ≡ column_at (slots_of columns) number
  slots_are = column_is columns number d many is

  entries_are : g.entries ≡ codes_in (column_at (slots_of columns) number)
  entries_are = entries_are_codes (slots_of columns) groups number g many_groups was.grouped g_is

  uses_by_slots : (id : ℕ) (gs : List Group) → gs ≡ groups_of g.entries → uses_among id first last gs ≡ sum_by (use_of id) (take (last + 1 - first) (drop (first - 1) (column_at (slots_of columns) number)))
  uses_by_slots id gs are = ap (uses_among id first last) (are ∙ ap groups_of entries_are) ∙ uses_alike id first last (column_at (slots_of columns) number) rows.from rows.in_order

  -- the uses by the groups are there
  pub uses_there : (gs : List Group) → gs ≡ groups_of g.entries → (id : ℕ) → uses_among id first last gs ≤ uses_at codes id
  uses_there gs are id =
      omega (
        arith,
        uses_by_slots id gs are,
        sum_by-take-le (use_of id) (drop (first - 1) (column_at (slots_of columns) number)) (last + 1 - first),
        sum_by-take-drop (use_of id) (column_at (slots_of columns) number) (first - 1),
        get_or-le-sum_by (λ c. sum_by (use_of id) c) (slots_of columns) number [] (subst (λ n. number < n) (sym was.sheets.all_columns) among),
        was.sheets.used id,
      )

  pub returned_by : (new : Codes) (gs : List Group) → gs ≡ groups_of g.entries → AreFreed codes new (λ id. uses_among id first last gs) (formulas_among first last gs) → AreReturned codes new (take (last + 1 - first) (drop (first - 1) (column_at (slots_of columns) number)))
  returned_by new gs are freed = record {
    uses = λ id. omega (arith, freed.uses id, uses_by_slots id gs are);
    total = omega (arith, freed.total, ap (formulas_among first last) (are ∙ ap groups_of entries_are) ∙ formulas_alike first last (column_at (slots_of columns) number) rows.from rows.in_order);
    live = freed.live;
    forms = freed.forms;
  }

  module _ (new : Codes) (freed : AreReturned codes new (take (last + 1 - first) (drop (first - 1) (column_at (slots_of columns) number)))) (left : SlotRows) (left_is : left.slots ≡ rows_set (first - 1) (last + 1 - first) slot.Empty d.slots) (grouping : GroupRows) (grouping_is : grouping.entries ≡ rows_set (first - 1) (last + 1 - first) None g.entries) where
    abbrev blank : Column
    blank = replicate (last + 1 - first) slot.Empty

    slots_after : slots_of (slice_set columns number left) ≡ with_rows (slots_of columns) number (first - 1) blank
    slots_after =
        map_set (λ (x : SlotRows). x.slots) columns number left
        ∙ ap (slice_set (slots_of columns) number) (left_is ∙ rows_emptied (first - 1) (last + 1 - first) d.slots ∙ ap (rows_put (first - 1) blank) slots_are)

    codes_after : codes_of (slice_set groups number grouping) ≡ map codes_in (with_rows (slots_of columns) number (first - 1) blank)
    codes_after =
        map_set (λ (x : GroupRows). x.entries) groups number grouping
        ∙ ap (λ gs. slice_set gs number grouping.entries) was.grouped
        ∙ ap (slice_set (map codes_in (slots_of columns)) number) (grouping_is ∙ ap (rows_set (first - 1) (last + 1 - first) None) entries_are ∙ sym (codes_emptied (first - 1) (last + 1 - first) (column_at (slots_of columns) number)))
        ∙ sym (codes_put (slots_of columns) number (rows_put (first - 1) blank (column_at (slots_of columns) number)))

    pub cells_left : cells_of new (slots_of (slice_set columns number left)) ≡ without_rows number (number + 1) first last (cells_of codes (slots_of columns))
    cells_left = ap (cells_of new) slots_after ∙ cells_emptied codes new (slots_of columns) was.sheets was.few number among first last rows.from rows.in_order rows.to freed

    fits : first - 1 + length blank ≤ LAST_ROW
    fits = omega (arith, rows.from, rows.in_order, rows.to, length-replicate (last + 1 - first) slot.Empty)

    gone : ℕ
    gone = sum_by cell_of (take (length blank) (drop (first - 1) (column_at (slots_of columns) number)))

    abbrev used_in : List SlotRows → ℕ
    used_in now = count_by is_filled (column_at (slots_of now) number)

    pub less : used_in (slice_set columns number left) + sum_by cell_of (take (length blank) (drop (first - 1) (column_at (slots_of columns) number))) ≡ used_in columns
    less =
        omega (
          arith,
          sum_rows (first - 1) blank (column_at (slots_of columns) number) (subst (λ n. first - 1 + length blank ≤ n) (sym (was.sheets.all_rows number among)) fits) cell_of,
          sum_by-replicate cell_of (last + 1 - first) slot.Empty,
          count_is_sum (column_at (slots_of columns) number),
          count_is_sum (column_at (slots_of (slice_set columns number left)) number),
          ap (λ cs. sum_by cell_of (column_at cs number)) slots_after ∙ ap (sum_by cell_of) (column_put (slots_of columns) was.sheets.all_columns was.sheets.all_rows number among (first - 1) blank fits),
        )

    pub used_few : used_in columns ≤ len
    used_few =
        omega (
          arith,
          was.counted,
          counted codes (slots_of columns),
          count_is_sum (column_at (slots_of columns) number),
          get_or-le-sum_by (λ c. sum_by cell_of c) (slots_of columns) number [] (subst (λ n. number < n) (sym was.sheets.all_columns) among),
        )

    pub still_columns : AreColumns new (slice_set columns number left) (slice_set groups number grouping) (len + used_in (slice_set columns number left) - used_in columns)
    still_columns = record {
      sheets = subst (AreSheets new) (sym slots_after) (sheets_emptied codes new (slots_of columns) was.sheets was.few number among first last rows.from rows.in_order rows.to freed);
      grouped = codes_after ∙ ap (map codes_in) (sym slots_after);
      few = omega (arith, ap length cells_left, length-filter (λ e. not (lies_in number (number + 1) first last e.0)) (cells_of codes (slots_of columns)), was.few);
      counted =
          omega (
            arith,
            was.counted,
            less,
            used_few,
            counted codes (slots_of columns),
            counted new (slots_of (slice_set columns number left)),
            ap (summed cell_of) slots_after,
            summed_rows (slots_of columns) was.sheets.all_columns was.sheets.all_rows number among (first - 1) blank fits cell_of,
            sum_by-replicate cell_of (last + 1 - first) slot.Empty,
          );
    }

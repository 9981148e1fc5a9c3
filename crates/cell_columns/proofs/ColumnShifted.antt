-- A column of the sheet whose rows change goes well.
use Rattle.std.proofs.Common.{◌≡◌, ℕ, ◌+◌, ◌-◌, ◌≤◌, ◌<◌, ◌==◌, true, false, cond, List, length, take, drop, ap, refl, ◌∙◌, arith}
use Rattle.std.specs.Prelude.{◌/◌, slice_index_or}
use Rattle.std.proofs.lemmas.Bool.{eq-eqb}
use Rattle.std.proofs.lemmas.Bool.Decides.{nat_tests}
use Rattle.calc_addr.specs.declared.cell.TheConstants.{LAST_COL, LAST_ROW}
use Rattle.calc_addr.specs.Places.{IsPlace, Place}
use Rattle.calc_addr.specs.Shifts.{is_deleted, row_after_deletion, row_after_insertion}
use Rattle.calc_model.specs.declared.change.Change.{Change}
use Rattle.calc_model.specs.declared.change.Change.TheVariants.{Stays, Moves, Inserted, Deleted}
use Rattle.calc_model.specs.Changes.{IsChange}
use Rattle.formula_code.specs.Codes.{Codes, tree_at}
use Rattle.run_tables.specs.Rows.{rows_erased, rows_inserted}
use Rattle.block_column.specs.declared.slot.Slot.TheVariants as slot
use Rattle.block_column.specs.Kinds.{is_filled}
use Rattle.kept_codes.specs.declared.cells.TheConstants.{COLUMNS}
use Rattle.kept_codes.specs.Columns.{cell_in}
use Rattle.cell_columns.specs.Cells.{Column, column_at, slot_at}
use Rattle.cell_columns.specs.Sheets.{AreSheets}
use Rattle.kept_codes.specs.RowChanges.{StaysIn, goes, sheet_of, tree_after}
use Rattle.cell_columns.specs.Shifted.{rows_moved}
use Rattle.cell_columns.proofs.RowsMoved.{after_deletion, after_insertion, before_deletion, before_insertion, front_long, length_erased, length_inserted}
use Rattle.cell_columns.proofs.SheetShifted.{MovesWell, gone, moves_nowhere, moves_parts}

-- the row of a cell of that sheet
inserted_at : (sheet place count n r s : ℕ) → n / LAST_COL ≡ sheet → row_after_insertion place count r ≡ s → goes (Inserted sheet place count) (cell_in n r) ≡ cell_in n s
inserted_at sheet place count n r s on row =
    ap (λ b. cond b (cell_in n (row_after_insertion place count r)) (cell_in n r)) (eq-eqb (n / LAST_COL) sheet on) ∙ ap (cell_in n) row

deleted_at : (sheet place count n r s : ℕ) → n / LAST_COL ≡ sheet → row_after_deletion place count r ≡ s → goes (Deleted sheet place count) (cell_in n r) ≡ cell_in n s
deleted_at sheet place count n r s on row =
    ap (λ b. cond b (cell_in n (row_after_deletion place count r)) (cell_in n r)) (eq-eqb (n / LAST_COL) sheet on) ∙ ap (cell_in n) row

row_above : (place count r s : ℕ) → r < place → s + 1 ≡ r + 1 → row_after_insertion place count r ≡ s
row_above place count r s h is = grind (arith, nat_tests, h, is)

row_below : (place count r s : ℕ) → place ≤ r → s ≡ r + count → row_after_insertion place count r ≡ s
row_below place count r s h is = grind (arith, nat_tests, h, is)

row_pushed : (place count r : ℕ) → place ≤ r → LAST_ROW < r + count → row_after_insertion place count r ≤ LAST_ROW → ⊥
row_pushed place count r h k fits = grind (arith, nat_tests, h, k, fits)

left_above : (place count r s : ℕ) → r < place → s + 1 ≡ r + 1 → row_after_deletion place count r ≡ s
left_above place count r s h is = grind (arith, nat_tests, h, is)

left_below : (place count r s : ℕ) → place ≤ r → s + count ≡ r → row_after_deletion place count r ≡ s
left_below place count r s h is = grind (arith, nat_tests, h, is)

row_gone : (place count r : ℕ) → place ≤ r → r < place + count → is_deleted place count r ≡ false → ⊥
row_gone place count r h k none = grind (arith, nat_tests, h, k, none)

-- the rows of a front and of a back, which begins at the place
module _ (place count size m k : ℕ) (begun : 1 ≤ place) (front : m ≡ place - 1) where
  above : (r : ℕ) → r < 1 + m → r < place
  above r h = omega (arith, h, begun, front)

  below : (r : ℕ) → 1 + m ≤ r → place ≤ r
  below r h = omega (arith, h, begun, front)

  behind : (r : ℕ) → 1 + m + count ≤ r → place ≤ r
  behind r h = omega (arith, h, begun, front)

  further : (r s : ℕ) → s + (1 + m) ≡ r + (1 + m + count) → s ≡ r + count
  further r s is = omega (arith, is)

  nearer : (r s : ℕ) → s + (1 + m + count) ≡ r + (1 + m) → s + count ≡ r
  nearer r s is = omega (arith, is)

pub on_sheet : (codes : Codes) (change : Change) (rows : IsChange change) (before : List Column) (was : AreSheets codes before) (stays : (q : Place) → IsPlace q → is_filled (slot_at before q) ≡ true → StaysIn change q) (keeps : (q : Place) → IsPlace q → (id : ℕ) → slot_at before q ≡ slot.Formula id → tree_at codes id (goes change q) ≡ tree_after change q (tree_at codes id q)) (n : ℕ) (among : n < COLUMNS) → n / LAST_COL ≡ sheet_of change → MovesWell codes change rows before was stays keeps n among (rows_moved change slot.Empty (column_at before n))
on_sheet codes Stays rows before was stays keeps n among on = moves_nowhere codes Stays rows before was stays keeps n among (λ r. refl)
on_sheet codes (Moves cols by) rows before was stays keeps n among on = moves_nowhere codes (Moves cols by) rows before was stays keeps n among (λ r. refl)
on_sheet codes (Inserted sheet place count) rows before was stays keeps n among on =
    let c : Column = column_at before n in
    let long : length c ≡ LAST_ROW = was.all_rows n among in
    let fits : place - 1 + count ≤ LAST_ROW = omega (arith, rows.from, rows.to) in
    let none : (i : ℕ) → LAST_ROW - count ≤ i → i < LAST_ROW → slice_index_or c i slot.Empty ≡ slot.Empty =
    λ i low high. gone codes (Inserted sheet place count) rows before was stays keeps n among i high (λ h. row_pushed place count (1 + i) (omega (arith, rows.from, rows.to, low)) (omega (arith, low)) (h on)) in
    let m : ℕ = length (take (place - 1) c) in
    let front : m ≡ place - 1 = front_long LAST_ROW (place - 1) count c long fits in
    moves_parts codes (Inserted sheet place count) rows before was stays keeps n among (rows_inserted (place - 1) count slot.Empty c) (take (place - 1) c) (take (LAST_ROW - count - (place - 1)) (drop (place - 1) c)) (1 + m) (1 + m + count)
    (before_insertion LAST_ROW (place - 1) count c long fits none)
    (after_insertion LAST_ROW (place - 1) count c long fits none)
    (λ r s low high is. inserted_at sheet place count n r s on (row_above place count r s (above place count 0 m 0 rows.from front r high) is))
    (λ r s low high is. inserted_at sheet place count n r s on (row_below place count r s (below place count 0 m 0 rows.from front r low) (further place count 0 m 0 rows.from front r s is)))
    (length_inserted LAST_ROW (place - 1) count c long fits)
on_sheet codes (Deleted sheet place count) rows before was stays keeps n among on =
    let c : Column = column_at before n in
    let long : length c ≡ LAST_ROW = was.all_rows n among in
    let fits : place - 1 + count ≤ LAST_ROW = omega (arith, rows.from, rows.to) in
    let none : (i : ℕ) → place - 1 ≤ i → i < place - 1 + count → slice_index_or c i slot.Empty ≡ slot.Empty =
    λ i low high. gone codes (Deleted sheet place count) rows before was stays keeps n among i (omega (arith, high, fits)) (λ h. row_gone place count (1 + i) (omega (arith, rows.from, low)) (omega (arith, rows.from, high)) (h on)) in
    let m : ℕ = length (take (place - 1) c) in
    let front : m ≡ place - 1 = front_long LAST_ROW (place - 1) count c long fits in
    moves_parts codes (Deleted sheet place count) rows before was stays keeps n among (rows_erased (place - 1) count slot.Empty c) (take (place - 1) c) (drop (place - 1 + count) c) (1 + m + count) (1 + m)
    (before_deletion LAST_ROW (place - 1) count c long fits none)
    (after_deletion LAST_ROW (place - 1) count c long fits none)
    (λ r s low high is. deleted_at sheet place count n r s on (left_above place count r s (above place count 0 m 0 rows.from front r high) is))
    (λ r s low high is. deleted_at sheet place count n r s on (left_below place count r s (behind place count 0 m 0 rows.from front r low) (nearer place count 0 m 0 rows.from front r s is)))
    (length_erased LAST_ROW (place - 1) count c long fits)

other_sheet : (change : Change) (n r : ℕ) → ((n / LAST_COL) == sheet_of change) ≡ false → goes change (cell_in n r) ≡ cell_in n r
other_sheet Stays n r off = refl
other_sheet (Moves cols by) n r off = refl
other_sheet (Inserted sheet place count) n r off = ap (λ b. cond b (cell_in n (row_after_insertion place count r)) (cell_in n r)) off
other_sheet (Deleted sheet place count) n r off = ap (λ b. cond b (cell_in n (row_after_deletion place count r)) (cell_in n r)) off

pub off_sheet : (codes : Codes) (change : Change) (rows : IsChange change) (before : List Column) (was : AreSheets codes before) (stays : (q : Place) → IsPlace q → is_filled (slot_at before q) ≡ true → StaysIn change q) (keeps : (q : Place) → IsPlace q → (id : ℕ) → slot_at before q ≡ slot.Formula id → tree_at codes id (goes change q) ≡ tree_after change q (tree_at codes id q)) (n : ℕ) (among : n < COLUMNS) → ((n / LAST_COL) == sheet_of change) ≡ false → MovesWell codes change rows before was stays keeps n among (column_at before n)
off_sheet codes change rows before was stays keeps n among off = moves_nowhere codes change rows before was stays keeps n among (λ r. other_sheet change n r off)

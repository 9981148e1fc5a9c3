-- The rows of a column are its cells, downwards, and its groups and blocks are those of its cells.
use Rattle.std.proofs.Common.{◌≡◌, ℕ, zero, suc, ◌+◌, ◌-◌, ◌*◌, ◌<◌, ◌==◌, List, [], ◌∷◌, length, map, Option, Some, refl, sym, ap, subst, ◌∙◌, arith}
use Rattle.std.specs.Prelude.{Bool, slice_index_or}
use Rattle.std.specs.Option.{option_map}
use Rattle.std.specs.List.{All, AllByRecursion, range_with_len}
use Rattle.calc_addr.specs.declared.cell.TheConstants.{LAST_COL, LAST_ROW}
use Rattle.calc_addr.specs.Places.{IsPlace, IsRows, Place, Rows}
use Rattle.formula_code.specs.Codes.{AreApart, Codes, IsCodeAt, IsLive, form_at}
use Rattle.run_tables.specs.Runs.{Run, runs_of}
use Rattle.formula_groups.specs.Groups.{a_group, groups_of}
use Rattle.block_column.specs.declared.slot.Slot.{Slot}
use Rattle.block_column.specs.declared.slot.Slot.TheVariants as slot
use Rattle.block_column.specs.Kinds.{kind_of, same_kind}
use Rattle.block_column.specs.Blocks.{a_block, blocks_of, kind_key}
use Rattle.cell_columns.specs.Cells.{Column, cells_of, cells_only, column_at, content_of, slot_at}
use Rattle.cell_columns.specs.ColumnRuns.{AllLie, IsSheetColumn, blocks_in, cells_down, form_in, form_of, groups_in, kind_in, kind_of_content, rows_of_block, rows_of_group, rows_of_run, same_tree}
use Rattle.cell_columns.specs.Sheets.{AreSheets}
use Rattle.cell_columns.specs.Uses.{code_in, codes_in}
use Rattle.cell_columns.proofs.FormRuns.{AllGood, form_runs, rekeyed}
use Rattle.cell_columns.proofs.Maps.{index_any, length_map, map_at}
use Rattle.kept_codes.proofs.RunRows.{LieIn, each_is, runs_lie}
use Rattle.cell_columns.proofs.Told.{holds}
use Rattle.formula_code.proofs.StayingForms.{form_forth}

kind_kept : (codes : Codes) (q : Place) (x : Slot) → kind_of_content (content_of codes q x) ≡ kind_of x
kind_kept codes q slot.Empty = refl
kind_kept codes q (slot.Number n) = refl
kind_kept codes q (slot.Words text) = refl
kind_kept codes q (slot.Bad fault) = refl
kind_kept codes q (slot.Raw text) = refl
kind_kept codes q (slot.Formula id) = refl

-- a number of rows and the slots of them, one by one
module _ {T : Type 0} (f : ℕ → T) (g : Slot → T) where
  rows_are : (p : ℕ) (xs : Column) → ((k : ℕ) → k < length xs → f (p + k) ≡ g (slice_index_or xs k slot.Empty)) → map f (range_with_len p (length xs)) ≡ map g xs
  rows_are p [] each = refl
  rows_are p (x ∷ xs) each =
      ap (λ y. y ∷ map f (range_with_len (p + 1) (length xs))) (ap f (omega arith) ∙ each 0 (omega arith))
      ∙ ap (λ ys. g x ∷ ys) (rows_are (p + 1) xs (λ k h. ap f (omega arith) ∙ each (suc k) (omega (arith, h))))

map_twice : {A B C : Type 0} (f : A → B) (g : B → C) (xs : List A) → map g (map f xs) ≡ map (λ x. g (f x)) xs
map_twice f g [] = refl
map_twice f g (x ∷ xs) = ap (λ ys. g (f x) ∷ ys) (map_twice f g xs)

all_of : {X : Type 0} (P : X → Type 0) (xs : List X) → AllByRecursion P xs → All P xs
all_of P (x ∷ xs) all zero d h = all.0
all_of P (x ∷ xs) all (suc k) d h = all_of P xs all.1 k d (omega (arith, h))
all_of P [] all k d h = absurd (omega (arith, h))

-- runs of all rows of a column of a sheet lie in it
module _ (sheet col : ℕ) (is : IsSheetColumn sheet col) where
  runs_are_rows : {K : Type 0} (same : K → K → Bool) (rows_of : Run K → Rows) → ((r : Run K) → rows_of r ≡ record { sheet = sheet; col = col; first = r.first; last = r.last }) → (s : List (Option K)) → length s ≡ LAST_ROW → AllLie (map rows_of (runs_of same s))
  runs_are_rows {K} same rows_of are s full =
      all_of IsRows (map rows_of (runs_of same s)) (each_is (LieIn 1 (1 + LAST_ROW)) IsRows rows_of lies (runs_of same s) (runs_lie same (1 + LAST_ROW) 1 s (omega (arith, full))))
    where
      lies : (r : Run K) → LieIn 1 (1 + LAST_ROW) r → IsRows (rows_of r)
      lies r h = subst IsRows (sym (are r)) (record { sheet_in = is.sheet_in; col_from = is.from; col_to = is.to; from = h.from; in_order = h.in_order; to = omega (arith, h.to) })

  pub groups_lie : (rows : List (Option ℕ)) → length rows ≡ LAST_ROW → AllLie (map (rows_of_group sheet col) (groups_of rows))
  groups_lie rows full = subst AllLie (sym (map_twice a_group (rows_of_group sheet col) (runs_of (λ k l. k == l) rows))) (runs_are_rows (λ k l. k == l) (λ r. rows_of_group sheet col (a_group r)) (λ r. refl) rows full)

  pub blocks_lie : (slots : Column) → length slots ≡ LAST_ROW → AllLie (map (rows_of_block sheet col) (blocks_of slots))
  blocks_lie slots full =
      subst AllLie (sym (map_twice a_block (rows_of_block sheet col) (runs_of same_kind (map kind_key slots))))
      (runs_are_rows same_kind (λ r. rows_of_block sheet col (a_block r)) (λ r. refl) (map kind_key slots) (length_map kind_key slots ∙ full))

-- the number of a sheet's column among all
abbrev pub column_of : ℕ → ℕ → ℕ
column_of sheet col = sheet * LAST_COL + (col - 1)

-- the column of a sheet is one of a book's columns
module _ (codes : Codes) (columns : List Column) (sheets : AreSheets codes columns) (sheet col : ℕ) (is : IsSheetColumn sheet col) where
  abbrev cell_of_row : ℕ → Place
  cell_of_row row = record { sheet = sheet; col = col; row = row }

  pub full : length (column_at columns (column_of sheet col)) ≡ LAST_ROW
  full = sheets.all_rows (column_of sheet col) (omega (arith, is.sheet_in, is.from, is.to))

  placed : (k : ℕ) → k < length (column_at columns (column_of sheet col)) → IsPlace (cell_of_row (1 + k))
  placed k h = record { sheet_in = is.sheet_in; col_from = is.from; col_to = is.to; row_from = omega arith; row_to = omega (arith, h, full) }

  there : (k : ℕ) → slot_at columns (cell_of_row (1 + k)) ≡ slice_index_or (column_at columns (column_of sheet col)) k slot.Empty
  there k = ap (λ n. slice_index_or (column_at columns (column_of sheet col)) n slot.Empty) (omega arith)

  -- what is said of the cells and of the slots of the column, one by one
  downwards : {T : Type 0} (f : Place → T) (g : Slot → T) → ((k : ℕ) → k < length (column_at columns (column_of sheet col)) → f (cell_of_row (1 + k)) ≡ g (slice_index_or (column_at columns (column_of sheet col)) k slot.Empty)) → map f (cells_down sheet col) ≡ map g (column_at columns (column_of sheet col))
  unfolding cells_down
  downwards f g each =
      map_twice cell_of_row f (range_with_len 1 LAST_ROW)
      ∙ ap (λ n. map (λ row. f (cell_of_row row)) (range_with_len 1 n)) (sym full)
      ∙ rows_are (λ row. f (cell_of_row row)) g 1 (column_at columns (column_of sheet col)) each

  pub blocks_down : blocks_of (column_at columns (column_of sheet col)) ≡ blocks_in (cells_only (cells_of codes columns)) sheet col
  unfolding blocks_in
  blocks_down =
      ap (λ ks. map a_block (runs_of same_kind ks)) (sym (downwards (λ q. Some (kind_in (cells_only (cells_of codes columns)) q)) kind_key
      (λ k h. ap (λ content. Some (kind_of_content content)) (holds codes columns (cell_of_row (1 + k)) (placed k h) ∙ ap (content_of codes (cell_of_row (1 + k))) (there k))
      ∙ ap Some (kind_kept codes (cell_of_row (1 + k)) (slice_index_or (column_at columns (column_of sheet col)) k slot.Empty)))))

  form_kept : (q : Place) (x : Slot) → ((id : ℕ) → x ≡ slot.Formula id → IsCodeAt codes id q) → form_of q (content_of codes q x) ≡ option_map (form_at codes) (code_in x)
  form_kept q slot.Empty coded = refl
  form_kept q (slot.Number n) coded = refl
  form_kept q (slot.Words text) coded = refl
  form_kept q (slot.Bad fault) coded = refl
  form_kept q (slot.Raw text) coded = refl
  form_kept q (slot.Formula id) coded = ap Some (form_forth q (form_at codes id) (coded id refl).valid)

  coded_here : (k : ℕ) → k < length (column_at columns (column_of sheet col)) → (id : ℕ) → slice_index_or (column_at columns (column_of sheet col)) k slot.Empty ≡ slot.Formula id → IsCodeAt codes id (cell_of_row (1 + k))
  coded_here k h id is = sheets.coded (cell_of_row (1 + k)) (placed k h) id (there k ∙ is)

  forms_down : map (form_in (cells_only (cells_of codes columns))) (cells_down sheet col) ≡ map (λ x. option_map (form_at codes) (code_in x)) (column_at columns (column_of sheet col))
  forms_down = downwards (form_in (cells_only (cells_of codes columns))) (λ x. option_map (form_at codes) (code_in x))
      (λ k h. ap (form_of (cell_of_row (1 + k))) (holds codes columns (cell_of_row (1 + k)) (placed k h) ∙ ap (content_of codes (cell_of_row (1 + k))) (there k))
      ∙ form_kept (cell_of_row (1 + k)) (slice_index_or (column_at columns (column_of sheet col)) k slot.Empty) (coded_here k h))

  live_rows : (xs : Column) → ((k : ℕ) → k < length xs → (id : ℕ) → slice_index_or xs k slot.Empty ≡ slot.Formula id → IsLive codes id) → AllGood (IsLive codes) (codes_in xs)
  live_rows [] each = tt
  live_rows (slot.Empty ∷ xs) each = live_rows xs (λ k h. each (suc k) (omega (arith, h)))
  live_rows (slot.Number n ∷ xs) each = live_rows xs (λ k h. each (suc k) (omega (arith, h)))
  live_rows (slot.Words text ∷ xs) each = live_rows xs (λ k h. each (suc k) (omega (arith, h)))
  live_rows (slot.Bad fault ∷ xs) each = live_rows xs (λ k h. each (suc k) (omega (arith, h)))
  live_rows (slot.Raw text ∷ xs) each = live_rows xs (λ k h. each (suc k) (omega (arith, h)))
  live_rows (slot.Formula id ∷ xs) each = (each 0 (omega arith) id refl, live_rows xs (λ k h. each (suc k) (omega (arith, h))))

  pub groups_down : AreApart codes → map (rows_of_group sheet col) (groups_of (codes_in (column_at columns (column_of sheet col)))) ≡ map (rows_of_run sheet col) (groups_in (cells_only (cells_of codes columns)) sheet col)
  unfolding groups_in
  groups_down apart =
      let rows : List (Option ℕ) = codes_in (column_at columns (column_of sheet col)) in
      let live : AllGood (IsLive codes) rows = live_rows (column_at columns (column_of sheet col)) (λ k h id is. (coded_here k h id is).live) in
      map_twice a_group (rows_of_group sheet col) (runs_of (λ k l. k == l) rows)
      ∙ sym (map_twice (rekeyed (form_at codes)) (rows_of_run sheet col) (runs_of (λ k l. k == l) rows))
      ∙ ap (map (rows_of_run sheet col)) (sym (form_runs codes apart rows live) ∙ ap (runs_of same_tree) (map_twice code_in (option_map (form_at codes)) (column_at columns (column_of sheet col)) ∙ sym forms_down))

-- a list's item as it is seen, whatever stands for those that aren't there
pub seen_at : {X Y : Type 0} (f : X → Y) (xs : List X) (i : ℕ) (x : X) (e : Y) → x ≡ slice_index_or xs i x → i < length xs → f x ≡ slice_index_or (map f xs) i e
seen_at f xs i x e is within =
    ap f is ∙ map_at f xs i x ∙ index_any (map f xs) i (f x) e (omega (arith, length_map f xs, within))

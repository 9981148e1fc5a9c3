-- Columns that are empty.
use Rattle.std.proofs.Common.{◌≡◌, ℕ, suc, zero, ◌+◌, ◌-◌, ◌*◌, ◌≤◌, ◌<◌, true, List, [], ◌∷◌, ◌++◌, length, map, replicate, refl, sym, ap, subst, ◌∙◌, arith}
use Rattle.std.specs.Prelude.{slice_index_or, sum_by}
use Rattle.std.proofs.lemmas.List.Folds.{sum_by-replicate}
use Rattle.calc_addr.specs.declared.cell.TheConstants.{LAST_ROW}
use Rattle.calc_addr.specs.Places.{Place}
use Rattle.calc_model.specs.declared.limits.TheConstants.{MOST_CELLS}
use Rattle.calc_model.specs.CellEdits.{CellEntries}
use Rattle.formula_code.specs.Codes.{Codes}
use Rattle.formula_groups.specs.Groups.{no_codes}
use Rattle.formula_groups.specs.GroupRows.{GroupRows}
use Rattle.block_column.specs.declared.slot.Slot.{Slot}
use Rattle.block_column.specs.declared.slot.Slot.TheVariants as slot
use Rattle.block_column.specs.Kinds.{is_filled}
use Rattle.block_column.specs.SlotRows.{SlotRows}
use Rattle.block_column.specs.Tables.{no_slots}
use Rattle.kept_codes.specs.declared.cells.TheConstants.{COLUMNS}
use Rattle.cell_columns.specs.Cells.{Column, cells_of, column_number, slot_at}
use Rattle.cell_columns.specs.Lent.{AreColumns, codes_of, slots_of}
use Rattle.cell_columns.specs.Sheets.{AreSheets}
use Rattle.cell_columns.specs.Uses.{cell_of, code_in, codes_in, formula_of, summed, use_of}
use Rattle.cell_columns.proofs.Counted.{counted}

one_more : (n : ℕ) → n + 1 ≡ suc n
one_more n = omega arith

one_behind : {X : Type 0} (n : ℕ) (x : X) → replicate (suc n) x ≡ replicate n x ++ (x ∷ [])
one_behind zero x = refl
one_behind (suc n) x = ap (λ t. x ∷ t) (one_behind n x)

pub replicate_more : {X : Type 0} (n : ℕ) (x : X) → replicate (n + 1) x ≡ replicate n x ++ (x ∷ [])
replicate_more n x = ap (λ k. replicate k x) (one_more n) ∙ one_behind n x

pub map_more : {X Y : Type 0} (f : X → Y) (xs : List X) (y : X) → map f (xs ++ (y ∷ [])) ≡ map f xs ++ (f y ∷ [])
map_more f [] y = refl
map_more f (x ∷ xs) y = ap (λ t. f x ∷ t) (map_more f xs y)

length_replicate : {X : Type 0} (n : ℕ) (x : X) → length (replicate n x) ≡ n
length_replicate zero x = refl
length_replicate (suc n) x = ap suc (length_replicate n x)

map_replicate : {X Y : Type 0} (f : X → Y) (n : ℕ) (x : X) → map f (replicate n x) ≡ replicate n (f x)
map_replicate f zero x = refl
map_replicate f (suc n) x = ap (λ t. f x ∷ t) (map_replicate f n x)

-- what holds of a default and of an element that is repeated holds of each
pub each_of : {X : Type 0} (P : X → Type 0) (n i : ℕ) (x d : X) → P d → P x → P (slice_index_or (replicate n x) i d)
each_of P zero i x d none some = none
each_of P (suc n) zero x d none some = some
each_of P (suc n) (suc i) x d none some = each_of P n i x d none some

at_index : {X : Type 0} (n i : ℕ) (x d : X) → i < n → slice_index_or (replicate n x) i d ≡ x
at_index zero i x d h = absurd (omega (arith, h))
at_index (suc n) zero x d h = refl
at_index (suc n) (suc i) x d h = at_index n i x d (omega (arith, h))

no_column : List Column
no_column = replicate COLUMNS no_slots

nothing_at : (q : Place) → slot_at (replicate COLUMNS no_slots) q ≡ slot.Empty
unfolding no_slots
nothing_at q =
    each_of (λ (c : Column). slice_index_or c (q.row - 1) slot.Empty ≡ slot.Empty) COLUMNS (column_number q) (replicate LAST_ROW slot.Empty) [] refl
    (each_of (λ (x : Slot). x ≡ slot.Empty) LAST_ROW (q.row - 1) slot.Empty slot.Empty refl refl)

nothing_summed : (f : Slot → ℕ) → f slot.Empty ≡ 0 → summed f (replicate COLUMNS no_slots) ≡ 0
unfolding no_slots
nothing_summed f none =
    sum_by-replicate (λ c. sum_by f c) COLUMNS (replicate LAST_ROW slot.Empty)
    ∙ ap (λ n. COLUMNS * n) (sum_by-replicate f LAST_ROW slot.Empty ∙ ap (λ n. LAST_ROW * n) none ∙ times_none LAST_ROW)
    ∙ times_none COLUMNS
  where
    times_none : (n : ℕ) → n * 0 ≡ 0
    times_none n = omega arith

rows_long : length no_slots ≡ LAST_ROW
unfolding no_slots
rows_long = length_replicate LAST_ROW slot.Empty

empty_sheets : AreSheets [] (replicate COLUMNS no_slots)
empty_sheets = record {
  all_columns = length_replicate COLUMNS no_slots;
  all_rows = λ n h. ap length (at_index COLUMNS n no_slots [] h) ∙ rows_long;
  coded = λ q is id here. let clash : slot.Empty ≡ slot.Formula id = sym (nothing_at q) ∙ here in cc;
  fit = λ q is filled. let clash : is_filled slot.Empty ≡ true = subst (λ x. is_filled x ≡ true) (nothing_at q) filled in cc;
  used = λ id. sym (nothing_summed (use_of id) refl);
  total = sym (nothing_summed formula_of refl);
}

no_cells : (es : CellEntries) → length es ≡ 0 → es ≡ []
no_cells [] h = refl
no_cells (e ∷ es) h = absurd (omega (arith, h))

pub empty_cells : (codes : Codes) → cells_of codes (replicate COLUMNS no_slots) ≡ []
empty_cells codes = no_cells (cells_of codes (replicate COLUMNS no_slots)) (counted codes (replicate COLUMNS no_slots) ∙ nothing_summed cell_of refl)

grouped_none : replicate COLUMNS no_codes ≡ map codes_in (replicate COLUMNS no_slots)
unfolding no_slots no_codes
grouped_none = sym (map_replicate codes_in COLUMNS (replicate LAST_ROW slot.Empty) ∙ ap (replicate COLUMNS) (map_replicate code_in LAST_ROW slot.Empty))

pub empty_columns_are : (codes : Codes) (columns : List SlotRows) (groups : List GroupRows) → codes ≡ [] → slots_of columns ≡ replicate COLUMNS no_slots → codes_of groups ≡ replicate COLUMNS no_codes → AreColumns codes columns groups 0
empty_columns_are codes columns groups none slots entries = record {
  sheets = subst (λ t. AreSheets t (slots_of columns)) (sym none) (subst (AreSheets []) (sym slots) empty_sheets);
  grouped = entries ∙ grouped_none ∙ ap (map codes_in) (sym slots);
  few = subst (λ es. length es ≤ MOST_CELLS) (sym seen) (omega arith);
  counted = sym (ap length seen);
}
  where
    seen : cells_of codes (slots_of columns) ≡ []
    seen = ap (cells_of codes) slots ∙ empty_cells codes

-- A whole column after an edit of its table.
use Rattle.std.proofs.Common.{◌≡◌, ℕ, zero, suc, ◌+◌, ◌-◌, ◌≤◌, List, [], ◌∷◌, ◌++◌, drop, length, replicate, Result, Ok, Err, OnOk, OnErr, IsOk, refl, sym, ap, subst, ◌∙◌, arith}
use Rattle.std.proofs.Math.ListN.{set}
use Rattle.std.specs.List.{filter, filter_map, count_by}
use Rattle.calc_addr.specs.declared.cell.TheConstants.{LAST_ROW}
use Rattle.std.proofs.lemmas.List.{length-replicate, take_all, drop_all, append-nil}
use Rattle.std.proofs.lemmas.List.Sums.{length-filter}
use Rattle.run_tables.specs.Rows.{AreRows, IsRowEdit, spliced, rows_set, rows_inserted, rows_erased}
use Rattle.run_tables.proofs.RowEdits.{length-spliced, length-rows_set, length-rows_inserted, length-rows_erased, rows_set-one, rows_inserted-steps, rows_erased-steps}
use Rattle.block_column.specs.declared.slot.Slot.{Slot}
use Rattle.block_column.specs.declared.slot.Slot.TheVariants.{Empty, Number, Words, Bad, Raw, Formula}
use Rattle.block_column.specs.declared.table.Table.{Table}
use Rattle.block_column.specs.Kinds.{is_filled}
use Rattle.block_column.specs.Stores.{a_number, a_text, a_fault, a_raw, a_code, item_count}
use Rattle.block_column.specs.Tables.{IsTableOf, IsTable, IsColumn, slots_of, no_slots}
use Rattle.block_column.proofs.Kept.{slots-back, table-again}

-- a table after an edit that leaves a column s
pub record Left (t : Table) (s : List Slot) : Type 0 where
  pub column : IsColumn t
  pub slots : slots_of t ≡ s

pub left : (t : Table) (s : List Slot) → length s ≡ LAST_ROW → IsTableOf t s → Left t s
left t s len h = record {
  column = record { table = table-again t s h; whole = ap length (slots-back t s h) ∙ len };
  slots = slots-back t s h;
}

pub same-left : (t u : Table) → IsColumn t → IsTableOf u (slots_of t) → Left u (slots_of t)
same-left t u c h = left u (slots_of t) c.whole h

length-none : length no_slots ≡ LAST_ROW
unfolding no_slots
length-none = length-replicate LAST_ROW Empty

pub none-left : (t : Table) → IsTableOf t no_slots → Left t no_slots
none-left t h = left t no_slots length-none h

pub range-left : (t u : Table) (first last : ℕ) (e : Slot) → AreRows first last → IsColumn t → IsTableOf u (spliced (first - 1) last (last + 1 - first) e (slots_of t)) → Left u (rows_set (first - 1) (last + 1 - first) e (slots_of t))
range-left t u first last e rows c h =
    let to : last ≡ first - 1 + (last + 1 - first) = omega (arith, rows.from, rows.in_order) in
    left u (rows_set (first - 1) (last + 1 - first) e (slots_of t))
    (length-rows_set (first - 1) (last + 1 - first) e (slots_of t) (omega (arith, rows.to, c.whole)) ∙ c.whole)
    (subst (λ b. IsTableOf u (spliced (first - 1) b (last + 1 - first) e (slots_of t))) to h)

pub set-left : (t u : Table) (row : ℕ) (e : Slot) → AreRows row row → IsColumn t → IsTableOf u (spliced (row - 1) row 1 e (slots_of t)) → Left u (set (slots_of t) (row - 1) e)
set-left t u row e rows c h =
    let one : 1 ≡ row + 1 - row = omega arith in
    let next : row + 1 - row ≡ 1 = omega arith in
    let whole : Left u (rows_set (row - 1) (row + 1 - row) e (slots_of t)) = range-left t u row row e rows c (subst (λ n. IsTableOf u (spliced (row - 1) row n e (slots_of t))) one h) in
    record {
      column = whole.column;
      slots = whole.slots ∙ ap (λ n. rows_set (row - 1) n e (slots_of t)) next ∙ rows_set-one (row - 1) e (slots_of t) (omega (arith, rows.from, rows.to, c.whole));
    }

pub insert-left : (t u : Table) (place count : ℕ) (e : Slot) → IsRowEdit place count → IsColumn t → IsTableOf u (rows_inserted (place - 1) count e (slots_of t)) → Left u (rows_inserted (place - 1) count e (slots_of t))
insert-left t u place count e edit c h =
    left u (rows_inserted (place - 1) count e (slots_of t)) (length-rows_inserted (place - 1) count e (slots_of t) (omega (arith, edit.from, edit.to, c.whole)) ∙ c.whole) h

pub erase-left : (t u : Table) (place count : ℕ) (e : Slot) → IsRowEdit place count → IsColumn t → IsTableOf u (rows_erased (place - 1) count e (slots_of t)) → Left u (rows_erased (place - 1) count e (slots_of t))
erase-left t u place count e edit c h =
    left u (rows_erased (place - 1) count e (slots_of t)) (length-rows_erased (place - 1) count e (slots_of t) (omega (arith, edit.from, edit.to, c.whole)) ∙ c.whole) h

-- a table with room for two edits, and after the first of them
pub record Step (t u : Table) (a b : ℕ) (e : Slot) : Type 0 where
  pub table : IsTable u
  pub slots : slots_of u ≡ spliced a b zero e (slots_of t)

pub step : (t r u : Table) (a b : ℕ) (e : Slot) → IsTableOf r (slots_of t) → IsTableOf u (spliced a b zero e (slots_of r)) → Step t u a b e
step t r u a b e kept h =
    let at : IsTableOf u (spliced a b zero e (slots_of t)) = subst (λ s. IsTableOf u (spliced a b zero e s)) (slots-back r (slots_of t) kept) h in
    record { table = table-again u (spliced a b zero e (slots_of t)) at; slots = slots-back u (spliced a b zero e (slots_of t)) at }

pub length-step : (t u : Table) (a b : ℕ) (e : Slot) → IsColumn t → b ≤ LAST_ROW → a ≤ b → Step t u a b e → length (slots_of u) ≡ LAST_ROW - (b - a)
length-step t u a b e c to order s = omega (arith, ap length s.slots, length-spliced a b zero e (slots_of t) (omega (arith, c.whole)), c.whole)

-- rows that go at the end where others come, and the other way round
pub inserted : (t v : Table) (place count : ℕ) (e : Slot) → IsRowEdit place count → IsColumn t
    → IsTableOf v (spliced (place - 1) (place - 1) count e (spliced (LAST_ROW - count) (LAST_ROW - count + count) zero e (slots_of t))) → IsTableOf v (rows_inserted (place - 1) count e (slots_of t))
inserted t v place count e edit c h =
    let end : LAST_ROW - count + count ≡ LAST_ROW = omega (arith, edit.from, edit.to) in
    subst (IsTableOf v)
    (ap (λ b. spliced (place - 1) (place - 1) count e (spliced (LAST_ROW - count) b zero e (slots_of t))) end
    ∙ rows_inserted-steps (place - 1) count LAST_ROW e e (slots_of t) c.whole (omega (arith, edit.from, edit.to))) h

pub erased : (t v : Table) (place count : ℕ) (e : Slot) → IsRowEdit place count → IsColumn t
    → IsTableOf v (spliced (LAST_ROW - count) (LAST_ROW - count) count e (spliced (place - 1) (place - 1 + count) zero e (slots_of t))) → IsTableOf v (rows_erased (place - 1) count e (slots_of t))
erased t v place count e edit c h =
    let s : List Slot = spliced (place - 1) (place - 1 + count) zero e (slots_of t) in
    let len : length s ≡ LAST_ROW - count = omega (arith, length-spliced (place - 1) (place - 1 + count) zero e (slots_of t) (omega (arith, edit.from, edit.to, c.whole)), c.whole, edit.from, edit.to) in
    subst (IsTableOf v) (at-end (LAST_ROW - count) count e s len ∙ rows_erased-steps (place - 1) count e e (slots_of t)) h
  where
    at-end : (a n : ℕ) (x : Slot) (w : List Slot) → length w ≡ a → spliced a a n x w ≡ w ++ replicate n x
    at-end a n x w is =
        ap (λ v. v ++ (replicate n x ++ drop a w)) (take_all a w (omega arith))
        ∙ ap (λ v. w ++ (replicate n x ++ v)) (drop_all a w (omega arith)) ∙ ap (λ v. w ++ v) (append-nil (replicate n x))

-- how many slots aren't empty
filled-items : (s : List Slot) → length (filter is_filled s) ≡ length (filter_map a_number s) + (length (filter_map a_text s) + length (filter_map a_raw s)) + (length (filter_map a_fault s) + length (filter_map a_code s))
filled-items [] = refl
filled-items (Empty ∷ s) = filled-items s
filled-items (Number n ∷ s) =
    let step : suc (length (filter is_filled s)) ≡ suc (length (filter_map a_number s)) + ((length (filter_map a_text s)) + (length (filter_map a_raw s))) + ((length (filter_map a_fault s)) + (length (filter_map a_code s))) = omega (arith, filled-items s) in step
filled-items (Words text ∷ s) =
    let step : suc (length (filter is_filled s)) ≡ (length (filter_map a_number s)) + (suc (length (filter_map a_text s)) + (length (filter_map a_raw s))) + ((length (filter_map a_fault s)) + (length (filter_map a_code s))) = omega (arith, filled-items s) in step
filled-items (Bad fault ∷ s) =
    let step : suc (length (filter is_filled s)) ≡ (length (filter_map a_number s)) + ((length (filter_map a_text s)) + (length (filter_map a_raw s))) + (suc (length (filter_map a_fault s)) + (length (filter_map a_code s))) = omega (arith, filled-items s) in step
filled-items (Raw text ∷ s) =
    let step : suc (length (filter is_filled s)) ≡ (length (filter_map a_number s)) + ((length (filter_map a_text s)) + suc (length (filter_map a_raw s))) + ((length (filter_map a_fault s)) + (length (filter_map a_code s))) = omega (arith, filled-items s) in step
filled-items (Formula id ∷ s) =
    let step : suc (length (filter is_filled s)) ≡ (length (filter_map a_number s)) + ((length (filter_map a_text s)) + (length (filter_map a_raw s))) + ((length (filter_map a_fault s)) + suc (length (filter_map a_code s))) = omega (arith, filled-items s) in step

filled-count : (s : List Slot) → count_by is_filled s ≡ length (filter_map a_number s) + (length (filter_map a_text s) + length (filter_map a_raw s)) + (length (filter_map a_fault s) + length (filter_map a_code s))
filled-count s = sym (length-filter is_filled s) ∙ filled-items s

pub counted-items : (t : Table) → IsColumn t → item_count t.stores ≡ count_by is_filled (slots_of t)
counted-items t c =
    let h = c.table.stores in
    omega (arith, filled-count (slots_of t), ap length h.numbers, ap length h.words, ap length h.bad, ap length h.raw, ap length h.codes)

-- what holds in both outcomes
pub either : {A E P Q R : Type 0} (r : Result A E) → OnOk r P → OnErr r Q → (P → R) → (Q → R) → R
either (Ok x) p q f g = f p
either (Err e) p q f g = g q

pub on-err : {A E P : Type 0} (r : Result A E) → P → OnErr r P
on-err (Ok x) p = tt
on-err (Err e) p = p

pub no-err : {A E : Type 0} (P : Type 0) (r : Result A E) → IsOk r → OnErr r P
no-err P (Ok x) h = tt
no-err P (Err e) h = absurd cc

-- Columns that go with a change of rows one after the other, with the groups of their formulas.
use Rattle.std.proofs.Common.{◌≡◌, ℕ, suc, zero, ◌+◌, ◌-◌, ◌≤◌, ◌<◌, ◌==◌, true, false, cond, List, [], ◌∷◌, ◌++◌, length, take, drop, map, replicate, None, ◌⊎◌, inl, inr, refl, sym, ap, ◌∙◌, arith}
use Rattle.std.proofs.Common.{get_or-set_same, get_or-set_other, length-set}
use Rattle.std.specs.Prelude.{count_by, slice_index_or, slice_set, sum_by}
use Rattle.std.proofs.lemmas.Bool.Decides.{Decides-eqb, nat_tests}
use Rattle.std.proofs.lemmas.List.Sums.{sum_by-cons}
use Rattle.calc_addr.specs.declared.cell.TheConstants.{LAST_ROW}
use Rattle.calc_model.specs.declared.change.Change.{Change}
use Rattle.calc_model.specs.declared.change.Change.TheVariants.{Stays, Moves, Inserted, Deleted}
use Rattle.calc_model.specs.Changes.{IsChange}
use Rattle.run_tables.specs.Rows.{rows_erased, rows_inserted}
use Rattle.block_column.specs.declared.slot.Slot.{Slot}
use Rattle.block_column.specs.declared.slot.Slot.TheVariants as slot
use Rattle.block_column.specs.Kinds.{is_filled}
use Rattle.block_column.specs.SlotRows.{SlotRows}
use Rattle.formula_groups.specs.GroupRows.{GroupRows}
use Rattle.cell_columns.specs.Cells.{Column, column_at}
use Rattle.cell_columns.specs.Lent.{codes_of, slots_of}
use Rattle.cell_columns.specs.Shifted.{PartlyMoved, rows_moved}
use Rattle.cell_columns.specs.Uses.{cell_of, codes_in, code_in}
use Rattle.cell_columns.proofs.Clearing.{codes-append, codes-drop, codes-take, no_codes_in}
use Rattle.cell_columns.proofs.Groups.{codes_put}
use Rattle.cell_columns.proofs.Maps.{length_map, map_set}
use Rattle.cell_columns.proofs.PutSlot.{unequal}
use Rattle.cell_columns.proofs.RowsMoved.{after_deletion, after_insertion, before_deletion, before_insertion, length_erased, length_inserted, sums_moved}
use Rattle.cell_columns.proofs.SheetShifted.{empty_slot}
use Rattle.cell_columns.proofs.Setting.{count_is_sum}

abbrev nought : ℕ
nought = 0

none_in : (xs : Column) → sum_by cell_of xs ≡ 0 → xs ≡ replicate (length xs) slot.Empty
none_in [] h = refl
none_in (x ∷ xs) h =
    let rest : sum_by cell_of xs ≡ 0 = omega (arith, h, sum_by-cons cell_of x xs) in
    let first : cell_of x ≡ 0 = omega (arith, h, sum_by-cons cell_of x xs) in
    ap (λ y. y ∷ xs) (empty_slot x (unfilled x first)) ∙ ap (λ t. slot.Empty ∷ t) (none_in xs rest)
  where
    unfilled : (x : Slot) → cell_of x ≡ 0 → is_filled x ≡ false
    unfilled x h = elim (is_filled x) as (λ b. cond b 1 nought ≡ nought → b ≡ false) [ true ↦ λ h. absurd (omega (arith, h)) | false ↦ λ _. refl ] h

all_none : (n i : ℕ) → slice_index_or (replicate n slot.Empty) i slot.Empty ≡ slot.Empty
all_none zero i = refl
all_none (suc n) zero = refl
all_none (suc n) (suc i) = all_none n i

-- a column without anything stays
pub nothing_moves : (change : Change) → IsChange change → (c : Column) → length c ≡ LAST_ROW → count_by is_filled c ≡ 0 → c ≡ rows_moved change slot.Empty c
nothing_moves Stays rows c long none = refl
nothing_moves (Moves cols by) rows c long none = refl
nothing_moves (Inserted sheet place count) rows c long none =
    let bare : c ≡ replicate (length c) slot.Empty = none_in c (count_is_sum c ∙ none) in
    let at : (i : ℕ) → slice_index_or c i slot.Empty ≡ slot.Empty = λ i. ap (λ xs. slice_index_or xs i slot.Empty) bare ∙ all_none (length c) i in
    let fits : place - 1 + count ≤ LAST_ROW = omega (arith, rows.from, rows.to) in
    let d : Column = rows_inserted (place - 1) count slot.Empty c in
    let sum : sum_by cell_of d ≡ sum_by cell_of c =
    sums_moved c d _ _ _ _ (before_insertion LAST_ROW (place - 1) count c long fits (λ i _ _. at i)) (after_insertion LAST_ROW (place - 1) count c long fits (λ i _ _. at i)) cell_of refl in
    bare ∙ ap (λ n. replicate n slot.Empty) (sym (length_inserted LAST_ROW (place - 1) count c long fits)) ∙ sym (none_in d (sum ∙ count_is_sum c ∙ none))
nothing_moves (Deleted sheet place count) rows c long none =
    let bare : c ≡ replicate (length c) slot.Empty = none_in c (count_is_sum c ∙ none) in
    let at : (i : ℕ) → slice_index_or c i slot.Empty ≡ slot.Empty = λ i. ap (λ xs. slice_index_or xs i slot.Empty) bare ∙ all_none (length c) i in
    let fits : place - 1 + count ≤ LAST_ROW = omega (arith, rows.from, rows.to) in
    let d : Column = rows_erased (place - 1) count slot.Empty c in
    let sum : sum_by cell_of d ≡ sum_by cell_of c =
    sums_moved c d _ _ _ _ (before_deletion LAST_ROW (place - 1) count c long fits (λ i _ _. at i)) (after_deletion LAST_ROW (place - 1) count c long fits (λ i _ _. at i)) cell_of refl in
    bare ∙ ap (λ n. replicate n slot.Empty) (sym (length_erased LAST_ROW (place - 1) count c long fits)) ∙ sym (none_in d (sum ∙ count_is_sum c ∙ none))

-- the codes go as the slots do
pub codes_moved : (change : Change) (c : Column) → codes_in (rows_moved change slot.Empty c) ≡ rows_moved change None (codes_in c)
codes_moved Stays c = refl
codes_moved (Moves cols by) c = refl
codes_moved (Inserted sheet place count) c =
    let a : ℕ = place - 1 in
    let gap : Column = replicate count slot.Empty in
    codes-take (length c) (take a c ++ (gap ++ drop a c))
    ∙ ap (take (length c)) (
    codes-append (take a c) (gap ++ drop a c)
    ∙ ap (λ t. t ++ codes_in (gap ++ drop a c)) (codes-take a c)
    ∙ ap (λ t. take a (codes_in c) ++ t) (codes-append gap (drop a c) ∙ ap (λ t. t ++ codes_in (drop a c)) (no_codes_in count) ∙ ap (λ t. replicate count None ++ t) (codes-drop a c))
    )
    ∙ ap (λ n. take n (take a (codes_in c) ++ (replicate count None ++ drop a (codes_in c)))) (sym (length_map code_in c))
codes_moved (Deleted sheet place count) c =
    let a : ℕ = place - 1 in
    let gap : Column = replicate count slot.Empty in
    codes-append (take a c) (drop (a + count) c ++ gap)
    ∙ ap (λ t. t ++ codes_in (drop (a + count) c ++ gap)) (codes-take a c)
    ∙ ap (λ t. take a (codes_in c) ++ t) (codes-append (drop (a + count) c) gap ∙ ap (λ t. t ++ codes_in gap) (codes-drop (a + count) c) ∙ ap (λ t. drop (a + count) (codes_in c) ++ t) (no_codes_in count))

-- the columns went so far, and each has the groups of its formulas
pub record Moving (change : Change) (columns now : List SlotRows) (groups : List GroupRows) (from number : ℕ) : Type 0 where
  pub part : PartlyMoved change (slots_of columns) (slots_of now) from number
  pub grouped : codes_of groups ≡ map codes_in (slots_of now)

module _ (change : Change) (columns now : List SlotRows) (groups : List GroupRows) (from number : ℕ) (so_far : Moving change columns now groups from number) (began : from ≤ number) (inside : number < length columns) (d : SlotRows) (g : GroupRows) (grouped : g.entries ≡ codes_in d.slots) where
  before : List Column
  before = slots_of columns

  pub among : number < length (slots_of now)
  among = omega (arith, inside, so_far.part.all, length_map (λ (c : SlotRows). c.slots) columns)

  slots_set : slots_of (slice_set now number d) ≡ slice_set (slots_of now) number d.slots
  slots_set = map_set (λ (c : SlotRows). c.slots) now number d

  pub grouped_set : codes_of (slice_set groups number g) ≡ map codes_in (slots_of (slice_set now number d))
  grouped_set =
      map_set (λ (x : GroupRows). x.entries) groups number g
      ∙ ap (slice_set (codes_of groups) number) grouped
      ∙ ap (λ gs. slice_set gs number (codes_in d.slots)) so_far.grouped
      ∙ sym (codes_put (slots_of now) number d.slots)
      ∙ ap (map codes_in) (sym slots_set)

  other : (n : ℕ) → (n == number) ≡ false → column_at (slots_of (slice_set now number d)) n ≡ column_at (slots_of now) n
  other n apart = ap (λ cs. column_at cs n) slots_set ∙ get_or-set_other (slots_of now) number n d.slots [] (unequal n number apart)

  here : column_at (slots_of (slice_set now number d)) number ≡ d.slots
  here = ap (λ cs. column_at cs number) slots_set ∙ get_or-set_same (slots_of now) number d.slots [] among

  all_set : length (slots_of (slice_set now number d)) ≡ length (slots_of columns)
  all_set = ap length slots_set ∙ length-set (slots_of now) number d.slots ∙ so_far.part.all

  pub one_more : d.slots ≡ rows_moved change slot.Empty (column_at (slots_of now) number) → Moving change columns (slice_set now number d) (slice_set groups number g) from (number + 1)
  one_more went = record {
    part = record {
      all = all_set;
      moved = λ n low high within. elim (n == number) as (λ b. (n == number) ≡ b → column_at (slots_of (slice_set now number d)) n ≡ rows_moved change slot.Empty (column_at (slots_of columns) n)) [
        | true ↦ λ same.
            let at : n ≡ number = (Decides-eqb n number).0 same in
            ap (column_at (slots_of (slice_set now number d))) at ∙ here ∙ went ∙ ap (rows_moved change slot.Empty) (so_far.part.others number (inr (omega arith)) ∙ ap (column_at (slots_of columns)) (sym at))
        | false ↦ λ apart. other n apart ∙ so_far.part.moved n low (grind (arith, nat_tests, high, apart)) within
      ] refl;
      others = λ n out. other n (not_here n out) ∙ so_far.part.others n (still_out n out);
    };
    grouped = grouped_set;
  }
    where
      not_here : (n : ℕ) → (n < from) ⊎ (number + 1 ≤ n) → (n == number) ≡ false
      not_here n (inl h) = grind (arith, nat_tests, h, began)
      not_here n (inr h) = grind (arith, nat_tests, h)

      still_out : (n : ℕ) → (n < from) ⊎ (number + 1 ≤ n) → (n < from) ⊎ (number ≤ n)
      still_out n (inl h) = inl h
      still_out n (inr h) = inr (omega (arith, h))

  pub none_more : d.slots ≡ column_at (slots_of now) number → Moving change columns (slice_set now number d) (slice_set groups number g) from number
  none_more stayed = record {
    part = record {
      all = all_set;
      moved = λ n low high within. same n ∙ so_far.part.moved n low high within;
      others = λ n out. same n ∙ so_far.part.others n out;
    };
    grouped = grouped_set;
  }
    where
      same : (n : ℕ) → column_at (slots_of (slice_set now number d)) n ≡ column_at (slots_of now) n
      same n = elim (n == number) as (λ b. (n == number) ≡ b → column_at (slots_of (slice_set now number d)) n ≡ column_at (slots_of now) n) [
        | true ↦ λ is.
            let at : n ≡ number = (Decides-eqb n number).0 is in
            ap (column_at (slots_of (slice_set now number d))) at ∙ here ∙ stayed ∙ ap (column_at (slots_of now)) (sym at)
        | false ↦ λ apart. other n apart
      ] refl

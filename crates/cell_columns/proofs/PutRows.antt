-- Slots that are put into neighbouring rows of a column.
use Rattle.std.proofs.Common.{◌≡◌, ◌≢◌, ℕ, ◌+◌, ◌-◌, ◌≤◌, ◌<◌, ◌==◌, true, false, List, [], ◌++◌, length, take, drop, ◌⊎◌, inl, inr, refl, sym, ap, subst, ◌∙◌, arith}
use Rattle.std.specs.Prelude.{slice_index_or, sum_by}
use Rattle.std.proofs.Common.{get_or-set_same, get_or-set_other, length-set}
use Rattle.std.proofs.lemmas.Bool.Decides.{Decides-eqb}
use Rattle.std.proofs.lemmas.List.{drop-drop, get_or-append_right, get_or-drop, get_or-take, get_or_append_left, length-append, length-drop, length-take}
use Rattle.std.proofs.lemmas.List.Sums.{sum_by-append, sum_by-set, sum_by-take-drop}
use Rattle.calc_addr.specs.declared.cell.TheConstants.{LAST_ROW}
use Rattle.calc_addr.specs.Places.{Place}
use Rattle.block_column.specs.declared.slot.Slot.{Slot}
use Rattle.block_column.specs.declared.slot.Slot.TheVariants as slot
use Rattle.kept_codes.specs.declared.cells.TheConstants.{COLUMNS}
use Rattle.cell_columns.specs.Cells.{Column, column_at, column_number, rows_put, slot_at, with_rows}
use Rattle.cell_columns.specs.Uses.{summed}
use Rattle.cell_columns.proofs.PutSlot.{unequal}

module _ {X : Type 0} (a : ℕ) (xs rows : List X) (fits : a + length xs ≤ length rows) where
  front_long : length (take a rows) ≡ a
  front_long = omega (arith, length-take a rows, fits)

  pub rows_long : length (rows_put a xs rows) ≡ length rows
  rows_long =
      omega (arith, fits, front_long, length-append (take a rows) (xs ++ drop (a + length xs) rows), length-append xs (drop (a + length xs) rows), length-drop (a + length xs) rows)

  pub row_before : (i : ℕ) (d : X) → i < a → slice_index_or (rows_put a xs rows) i d ≡ slice_index_or rows i d
  row_before i d h =
      get_or_append_left (take a rows) (xs ++ drop (a + length xs) rows) d i (subst (λ n. i < n) (sym front_long) h) ∙ get_or-take a rows i d h

  past_front : (i : ℕ) (d : X) → a ≤ i → slice_index_or (rows_put a xs rows) i d ≡ slice_index_or (xs ++ drop (a + length xs) rows) (i - a) d
  past_front i d h = get_or-append_right (take a rows) (xs ++ drop (a + length xs) rows) a i d front_long h

  pub row_put : (i : ℕ) (d : X) → a ≤ i → i < a + length xs → slice_index_or (rows_put a xs rows) i d ≡ slice_index_or xs (i - a) d
  row_put i d h k = past_front i d h ∙ get_or_append_left xs (drop (a + length xs) rows) d (i - a) (omega (arith, h, k))

  pub row_behind : (i : ℕ) (d : X) → a + length xs ≤ i → slice_index_or (rows_put a xs rows) i d ≡ slice_index_or rows i d
  row_behind i d h =
      let same : a + length xs + (i - a - length xs) ≡ i = omega (arith, h) in
      past_front i d (omega (arith, h))
      ∙ get_or-append_right xs (drop (a + length xs) rows) (length xs) (i - a) d refl (omega (arith, h))
      ∙ get_or-drop (a + length xs) rows (i - a - length xs) d
      ∙ ap (λ n. slice_index_or rows n d) same

  -- a sum over the rows changes by that over those that are put
  pub sum_rows : (f : X → ℕ) → sum_by f (rows_put a xs rows) + sum_by f (take (length xs) (drop a rows)) ≡ sum_by f rows + sum_by f xs
  sum_rows f =
      let after : List X = drop a rows in
      let behind : sum_by f (drop (length xs) after) ≡ sum_by f (drop (a + length xs) rows) = ap (sum_by f) (drop-drop (length xs) a rows) in
      omega (
        arith,
        sum_by-append f (take a rows) (xs ++ drop (a + length xs) rows),
        sum_by-append f xs (drop (a + length xs) rows),
        sum_by-take-drop f rows a,
        sum_by-take-drop f after (length xs),
        behind,
      )

module _ (before : List Column) (all : length before ≡ COLUMNS) (rows : (number : ℕ) → number < COLUMNS → length (column_at before number) ≡ LAST_ROW) (number : ℕ) (among : number < COLUMNS) (a : ℕ) (xs : Column) (fits : a + length xs ≤ LAST_ROW) where
  old : Column
  old = column_at before number

  inside : number < length before
  inside = subst (λ n. number < n) (sym all) among

  fit : a + length xs ≤ length (column_at before number)
  fit = subst (λ n. a + length xs ≤ n) (sym (rows number among)) fits

  pub all_put : length (with_rows before number a xs) ≡ COLUMNS
  all_put = length-set before number (rows_put a xs (column_at before number)) ∙ all

  pub column_put : column_at (with_rows before number a xs) number ≡ rows_put a xs (column_at before number)
  column_put = get_or-set_same before number (rows_put a xs (column_at before number)) [] inside

  pub rows_put_long : (n : ℕ) → n < COLUMNS → length (column_at (with_rows before number a xs) n) ≡ LAST_ROW
  rows_put_long n h =
      elim (n == number) as (λ b. (n == number) ≡ b → length (column_at (with_rows before number a xs) n) ≡ LAST_ROW) [
        | true ↦ λ same.
            ap (λ k. length (column_at (with_rows before number a xs) k)) ((Decides-eqb n number).0 same)
            ∙ ap length column_put
            ∙ rows_long a xs (column_at before number) fit
            ∙ rows number among
        | false ↦ λ other. ap length (get_or-set_other before number n (rows_put a xs (column_at before number)) [] (unequal n number other)) ∙ rows n h
      ] refl

  at_column : (q : Place) → column_number q ≡ number → slot_at (with_rows before number a xs) q ≡ slice_index_or (rows_put a xs (column_at before number)) (q.row - 1) slot.Empty
  at_column q here =
      ap (λ n. slice_index_or (column_at (with_rows before number a xs) n) (q.row - 1) slot.Empty) here
      ∙ ap (λ c. slice_index_or c (q.row - 1) slot.Empty) column_put

  -- the slot of a cell in the rows is the one that is put there
  pub slot_put : (q : Place) → column_number q ≡ number → a ≤ q.row - 1 → q.row - 1 < a + length xs → slot_at (with_rows before number a xs) q ≡ slice_index_or xs (q.row - 1 - a) slot.Empty
  slot_put q here from to = at_column q here ∙ row_put a xs (column_at before number) fit (q.row - 1) slot.Empty from to

  pub slot_stays : (q : Place) → (column_number q ≢ number) ⊎ ((q.row - 1 < a) ⊎ (a + length xs ≤ q.row - 1)) → slot_at (with_rows before number a xs) q ≡ slot_at before q
  slot_stays q (inl other) = ap (λ c. slice_index_or c (q.row - 1) slot.Empty) (get_or-set_other before number (column_number q) (rows_put a xs (column_at before number)) [] other)
  slot_stays q (inr row) =
      elim (column_number q == number) as (λ b. (column_number q == number) ≡ b → slot_at (with_rows before number a xs) q ≡ slot_at before q) [
        | true ↦ λ same.
            let here : column_number q ≡ number = (Decides-eqb (column_number q) number).0 same in
            at_column q here ∙ outside row ∙ ap (λ n. slice_index_or (column_at before n) (q.row - 1) slot.Empty) (sym here)
        | false ↦ λ apart. ap (λ c. slice_index_or c (q.row - 1) slot.Empty) (get_or-set_other before number (column_number q) (rows_put a xs (column_at before number)) [] (unequal (column_number q) number apart))
      ] refl
    where
      outside : (q.row - 1 < a) ⊎ (a + length xs ≤ q.row - 1) → slice_index_or (rows_put a xs (column_at before number)) (q.row - 1) slot.Empty ≡ slice_index_or (column_at before number) (q.row - 1) slot.Empty
      outside (inl above) = row_before a xs (column_at before number) fit (q.row - 1) slot.Empty above
      outside (inr behind) = row_behind a xs (column_at before number) fit (q.row - 1) slot.Empty behind

  -- a sum over all slots changes by that over those that are put
  pub summed_rows : (f : Slot → ℕ) → summed f (with_rows before number a xs) + sum_by f (take (length xs) (drop a (column_at before number))) ≡ summed f before + sum_by f xs
  summed_rows f =
      let c : Column = column_at before number in
      omega (arith, sum_rows a xs c fit f, sum_by-set (λ c. sum_by f c) before number (rows_put a xs c) [] inside)

-- A column in which rows are inserted or deleted keeps a front and a back, and what lies between them or behind is empty.
use Rattle.std.proofs.Common.{◌≡◌, ℕ, suc, zero, ◌+◌, ◌-◌, ◌≤◌, ◌<◌, List, [], ◌∷◌, ◌++◌, length, take, drop, replicate, refl, sym, ap, subst, ◌∙◌, arith}
use Rattle.std.specs.Prelude.{slice_index_or, sum_by}
use Rattle.std.proofs.lemmas.List.{drop-drop, get_or-drop, get_or-take, length-append, length-drop, length-replicate, length-take}
use Rattle.std.proofs.lemmas.List.Sums.{sum_by-append}
use Rattle.calc_model.specs.declared.change.Change.{Change}
use Rattle.calc_model.specs.CellEdits.{CellEntries}
use Rattle.formula_code.specs.Codes.{Codes}
use Rattle.run_tables.specs.Rows.{rows_erased, rows_inserted}
use Rattle.block_column.specs.declared.slot.Slot.{Slot}
use Rattle.block_column.specs.declared.slot.Slot.TheVariants as slot
use Rattle.cell_columns.specs.Cells.{Column, cells_below}
use Rattle.cell_columns.specs.Shifted.{shifted}
use Rattle.cell_columns.proofs.RowParts.{Fits, GoesWell, Meets, Rows, cells_behind, cells_between, cells_there, fits_there, rows_back, rows_both, rows_empty, rows_front, shifted_append, sum_empty}

-- the column is a front, a back that begins at a row, and rows that are empty
pub record Holds (c front back : Column) (at : ℕ) : Type 1 where
  pub cells : (codes : Codes) (number : ℕ) → cells_below codes number 1 c ≡ cells_below codes number 1 front ++ cells_below codes number at back
  pub sums : (f : Slot → ℕ) → f slot.Empty ≡ 0 → sum_by f c ≡ sum_by f front + sum_by f back
  pub begins : (P : ℕ → Slot → Type 0) → Rows P 1 c → Rows P 1 front
  pub goes_on : (P : ℕ → Slot → Type 0) → Rows P 1 c → Rows P at back
  pub all : (P : ℕ → Slot → Type 0) → ((r : ℕ) → P r slot.Empty) → Rows P 1 front → Rows P at back → Rows P 1 c

module _ (n : ℕ) (front back : Column) where
  abbrev gap : Column
  gap = replicate n slot.Empty

  there : 1 + length front + length (replicate n slot.Empty) ≡ 1 + length front + n
  there = omega (arith, length-replicate n slot.Empty)

  pub between : Holds (front ++ (replicate n slot.Empty ++ back)) front back (1 + length front + n)
  between = record {
    cells = λ codes number. cells_between codes number n front back ∙ ap (λ r. cells_below codes number 1 front ++ cells_below codes number r back) there;
    sums = λ f none. omega (arith, sum_by-append f front (gap ++ back), sum_by-append f gap back, sum_empty f none n);
    begins = λ P rows. rows_front P 1 front (gap ++ back) rows;
    goes_on = λ P rows. subst (λ r. Rows P r back) there (rows_back P (1 + length front) gap back (rows_back P 1 front (gap ++ back) rows));
    all = λ P none begins goes_on. rows_both P 1 front (gap ++ back) begins (rows_both P (1 + length front) gap back (rows_empty P none (1 + length front) n) (subst (λ r. Rows P r back) (sym there) goes_on));
  }

  pub behind : Holds (front ++ (back ++ replicate n slot.Empty)) front back (1 + length front)
  behind = record {
    cells = λ codes number. cells_behind codes number n front back;
    sums = λ f none. omega (arith, sum_by-append f front (back ++ gap), sum_by-append f back gap, sum_empty f none n);
    begins = λ P rows. rows_front P 1 front (back ++ gap) rows;
    goes_on = λ P rows. rows_front P (1 + length front) back gap (rows_back P 1 front (back ++ gap) rows);
    all = λ P none begins goes_on. rows_both P 1 front (back ++ gap) begins (rows_both P (1 + length front) back gap goes_on (rows_empty P none (1 + length front + length back) n));
  }

-- where the front stays and the back goes from one row to another, all go well
module _ (codes : Codes) (number : ℕ) (change : Change) (c d front back : Column) (from to : ℕ) (was : Holds c front back from) (is : Holds d front back to) (well : Rows (GoesWell codes number change) 1 c) (front_stays : Meets codes number change 1 1 (length front)) (back_goes : Meets codes number change from to (length back)) where
  pub cells_moved : cells_below codes number 1 d ≡ shifted change (cells_below codes number 1 c)
  cells_moved =
      is.cells codes number
      ∙ ap (λ (es : CellEntries). es ++ cells_below codes number to back) (cells_there codes number change 1 1 front (was.begins (GoesWell codes number change) well) front_stays)
      ∙ ap (λ es. shifted change (cells_below codes number 1 front) ++ es) (cells_there codes number change from to back (was.goes_on (GoesWell codes number change) well) back_goes)
      ∙ sym (ap (shifted change) (was.cells codes number) ∙ shifted_append codes number change (cells_below codes number 1 front) (cells_below codes number from back))

  pub fits_moved : ((r : ℕ) → Fits codes number change r slot.Empty) → Rows (Fits codes number change) 1 d
  fits_moved none =
      is.all (Fits codes number change) none
      (fits_there codes number change 1 1 front (was.begins (GoesWell codes number change) well) front_stays)
      (fits_there codes number change from to back (was.goes_on (GoesWell codes number change) well) back_goes)

pub sums_moved : (c d front back : Column) (from to : ℕ) → Holds c front back from → Holds d front back to → (f : Slot → ℕ) → f slot.Empty ≡ 0 → sum_by f d ≡ sum_by f c
sums_moved c d front back from to was is f none = omega (arith, was.sums f none, is.sums f none)

parted : {X : Type 0} (n : ℕ) (xs : List X) → xs ≡ take n xs ++ drop n xs
parted zero [] = refl
parted (suc n) [] = refl
parted zero (x ∷ xs) = refl
parted (suc n) (x ∷ xs) = ap (λ t. x ∷ t) (parted n xs)

seam : {X : Type 0} (xs ys : List X) → take (length xs) (xs ++ ys) ≡ xs
seam [] [] = refl
seam [] (y ∷ ys) = refl
seam (x ∷ xs) ys = ap (λ t. x ∷ t) (seam xs ys)

joined : {X : Type 0} (xs ys zs : List X) → xs ++ (ys ++ zs) ≡ (xs ++ ys) ++ zs
joined [] ys zs = refl
joined (x ∷ xs) ys zs = ap (λ t. x ∷ t) (joined xs ys zs)

all_empty : (xs : Column) → ((i : ℕ) → i < length xs → slice_index_or xs i slot.Empty ≡ slot.Empty) → xs ≡ replicate (length xs) slot.Empty
all_empty [] each = refl
all_empty (x ∷ xs) each = ap (λ y. y ∷ xs) (each 0 (omega arith)) ∙ ap (λ t. slot.Empty ∷ t) (all_empty xs (λ i h. each (suc i) (omega (arith, h))))

module _ (size a count : ℕ) (c : Column) (long : length c ≡ size) (fits : a + count ≤ size) where
  pub front : Column
  front = take a c

  pub front_long : length (take a c) ≡ a
  front_long = omega (arith, long, fits, length-take a c)

  empty_part : (n m : ℕ) → n + m ≤ size → ((i : ℕ) → n ≤ i → i < n + m → slice_index_or c i slot.Empty ≡ slot.Empty) → (xs : Column) → length xs ≡ m → ((i : ℕ) → i < m → slice_index_or xs i slot.Empty ≡ slice_index_or c (n + i) slot.Empty) → xs ≡ replicate m slot.Empty
  empty_part n m inside none xs many at =
      all_empty xs (λ i h. at i (subst (λ k. i < k) many h) ∙ none (n + i) (omega arith) (omega (arith, h, many)))
      ∙ ap (λ k. replicate k slot.Empty) many

  -- the last rows are empty, and empty rows come between
  module _ (none : (i : ℕ) → size - count ≤ i → i < size → slice_index_or c i slot.Empty ≡ slot.Empty) where
    abbrev pub kept : Column
    kept = take (size - count - a) (drop a c)

    pub kept_long : length (take (size - count - a) (drop a c)) ≡ size - count - a
    kept_long = omega (arith, long, fits, length-take (size - count - a) (drop a c), length-drop a c)

    last_empty : drop (size - count - a) (drop a c) ≡ replicate count slot.Empty
    last_empty =
        empty_part (size - count) count (omega (arith, fits)) (λ i low high. none i low (omega (arith, high, fits))) (drop (size - count - a) (drop a c))
        (omega (arith, long, fits, length-drop (size - count - a) (drop a c), length-drop a c))
        (λ i h. get_or-drop (size - count - a) (drop a c) i slot.Empty ∙ get_or-drop a c (size - count - a + i) slot.Empty ∙ ap (λ k. slice_index_or c k slot.Empty) (place i))
      where
        place : (i : ℕ) → a + (size - count - a + i) ≡ size - count + i
        place i = omega (arith, fits)

    rest : drop a c ≡ kept ++ replicate count slot.Empty
    rest = parted (size - count - a) (drop a c) ∙ ap (λ t. kept ++ t) last_empty

    pub before_insertion : Holds c (take a c) (take (size - count - a) (drop a c)) (1 + length (take a c))
    before_insertion =
        subst (λ xs. Holds xs (take a c) (take (size - count - a) (drop a c)) (1 + length (take a c))) (sym (parted a c ∙ ap (λ t. take a c ++ t) rest))
        (behind count (take a c) (take (size - count - a) (drop a c)))

    inserted : rows_inserted a count slot.Empty c ≡ take a c ++ (replicate count slot.Empty ++ kept)
    inserted =
        let gap : Column = replicate count slot.Empty in
        let whole : Column = take a c ++ (gap ++ kept) in
        let many : length c ≡ length whole = omega (arith, long, fits, front_long, kept_long, length-append (take a c) (gap ++ kept), length-append gap kept, length-replicate count slot.Empty) in
        ap (λ t. take (length c) (take a c ++ (gap ++ t))) rest
        ∙ ap (λ t. take (length c) (take a c ++ t)) (joined gap kept gap)
        ∙ ap (take (length c)) (joined (take a c) (gap ++ kept) gap)
        ∙ ap (λ k. take k (whole ++ gap)) many
        ∙ seam whole gap

    pub after_insertion : Holds (rows_inserted a count slot.Empty c) (take a c) (take (size - count - a) (drop a c)) (1 + length (take a c) + count)
    after_insertion = subst (λ xs. Holds xs (take a c) (take (size - count - a) (drop a c)) (1 + length (take a c) + count)) (sym inserted) (between count (take a c) (take (size - count - a) (drop a c)))

  pub length_inserted : length (rows_inserted a count slot.Empty c) ≡ length c
  length_inserted =
      let gap : Column = replicate count slot.Empty in
      omega (arith, long, fits, length-take (length c) (take a c ++ (gap ++ drop a c)), length-append (take a c) (gap ++ drop a c), length-append gap (drop a c), length-replicate count slot.Empty, front_long, length-drop a c)

  -- the rows from a on are empty, and go behind the others
  module _ (none : (i : ℕ) → a ≤ i → i < a + count → slice_index_or c i slot.Empty ≡ slot.Empty) where
    abbrev pub left : Column
    left = drop (a + count) c

    pub left_long : length (drop (a + count) c) ≡ size - count - a
    left_long = omega (arith, long, fits, length-drop (a + count) c)

    gone_empty : take count (drop a c) ≡ replicate count slot.Empty
    gone_empty =
        empty_part a count fits none (take count (drop a c))
        (omega (arith, long, fits, length-take count (drop a c), length-drop a c))
        (λ i h. get_or-take count (drop a c) i slot.Empty h ∙ get_or-drop a c i slot.Empty)

    pub before_deletion : Holds c (take a c) (drop (a + count) c) (1 + length (take a c) + count)
    before_deletion =
        subst (λ xs. Holds xs (take a c) (drop (a + count) c) (1 + length (take a c) + count))
        (sym (parted a c ∙ ap (λ t. take a c ++ t) (parted count (drop a c) ∙ ap (λ t. t ++ drop count (drop a c)) gone_empty ∙ ap (λ t. replicate count slot.Empty ++ t) (drop-drop count a c))))
        (between count (take a c) (drop (a + count) c))

    pub after_deletion : Holds (rows_erased a count slot.Empty c) (take a c) (drop (a + count) c) (1 + length (take a c))
    after_deletion = behind count (take a c) (drop (a + count) c)

  pub length_erased : length (rows_erased a count slot.Empty c) ≡ length c
  length_erased =
      let gap : Column = replicate count slot.Empty in
      omega (arith, long, fits, length-append (take a c) (drop (a + count) c ++ gap), length-append (drop (a + count) c) gap, length-replicate count slot.Empty, front_long, length-drop (a + count) c)

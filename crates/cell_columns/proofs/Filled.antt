-- Rows of a column that hold something, by its blocks and one after the other.
use Rattle.std.proofs.Common.{◌≡◌, ℕ, suc, zero, ◌+◌, ◌-◌, ◌≤◌, ◌<◌, nat_lt, true, false, cond, List, [], ◌∷◌, ◌++◌, length, take, drop, map, Option, Some, None, unwrap_or, refl, sym, ap, subst, ◌∙◌, arith}
use Rattle.std.specs.Prelude.{slice_get, slice_index_or, sum_by}
use Rattle.std.specs.List.{Contains}
use Rattle.std.specs.Option.{option_map}
use Rattle.std.proofs.lemmas.List.{drop-map, get_or-drop, take-map}
use Rattle.std.proofs.lemmas.Bool.Decides.{nat_tests}
use Rattle.calc_addr.specs.declared.cell.TheConstants.{LAST_ROW}
use Rattle.calc_addr.specs.Places.{Place}
use Rattle.run_tables.specs.Runs.{Rises, Run, entry, runs_of}
use Rattle.run_tables.proofs.Entries.{entries-row, entries-runs, entry-in, entry-past}
use Rattle.run_tables.proofs.RunLists.{runs-rise}
use Rattle.block_column.specs.declared.slot.Slot.{Slot}
use Rattle.block_column.specs.declared.slot.Slot.TheVariants as slot
use Rattle.block_column.specs.declared.block.Kind.{Kind}
use Rattle.block_column.specs.declared.block.Block.{Block}
use Rattle.block_column.specs.Blocks.{a_block, block_run, blocks_of, kind_key}
use Rattle.block_column.specs.Kinds.{is_filled, kind_of, same_kind}
use Rattle.block_column.specs.KindTests.{kinds-decided}
use Rattle.kept_codes.specs.Columns.{cell_in}
use Rattle.cell_columns.specs.Cells.{Column}
use Rattle.cell_columns.specs.Uses.{cell_of, formula_of}
use Rattle.cell_columns.specs.Walks.{AreEmpty, filled_among, filled_in, formulas_by_blocks, formulas_in_block, holds_formula, holds_something, places_below, rows_in, slot_in}
use Rattle.cell_columns.proofs.Among.{row, rows_sum, sum_alike, sum_map}

-- a slot is filled as its kind says
pub filled_kind : (x : Slot) → is_filled x ≡ holds_something (kind_of x)
filled_kind slot.Empty = refl
filled_kind (slot.Number n) = refl
filled_kind (slot.Words text) = refl
filled_kind (slot.Bad fault) = refl
filled_kind (slot.Raw text) = refl
filled_kind (slot.Formula id) = refl

bare : {X : Type 0} (x y : X) → Some x ≡ Some y → x ≡ y
bare x y same = ap (λ o. unwrap_or o x) same

module _ {K : Type 0} where
  begins_past : (p k : ℕ) (t : List (Run K)) (d : Run K) → Rises p t → k < length t → p ≤ (slice_index_or t k d).first
  begins_past p k [] d rise h = absurd (omega (arith, h))
  begins_past p zero (x ∷ t) d rise h = rise.0
  begins_past p (suc k) (x ∷ t) d rise h =
      let behind : x.last + 1 ≤ (slice_index_or t k d).first = begins_past (x.last + 1) k t d rise.2 (omega (arith, h)) in
      omega (arith, behind, rise.0, rise.1)

  -- a row of a run has its key
  entry_of : (p q k : ℕ) (t : List (Run K)) (d : Run K) → Rises p t → k < length t → (slice_index_or t k d).first ≤ q → q ≤ (slice_index_or t k d).last → entry q t ≡ Some (slice_index_or t k d).key
  entry_of p q k [] d rise h from to = absurd (omega (arith, h))
  entry_of p q zero (x ∷ t) d rise h from to = entry-in q x t from to
  entry_of p q (suc k) (x ∷ t) d rise h from to =
      let behind : x.last + 1 ≤ (slice_index_or t k d).first = begins_past (x.last + 1) k t d rise.2 (omega (arith, h)) in
      entry-past q x t (omega (arith, behind, from)) ∙ entry_of (x.last + 1) q k t d rise.2 (omega (arith, h)) from to

-- a run that isn't there has no key
pub no_key : {P K : Type 0} (f : P → K) (o : Option P) (e : Option K) (k : K) → option_map f o ≡ e → o ≡ None → e ≡ Some k → ⊥
no_key f None e k key is some = let none : None ≡ Some k = key ∙ some in cc
no_key f (Some p) e k key is some = cc

runs_back : (rs : List (Run Kind)) → map block_run (map a_block rs) ≡ rs
runs_back [] = refl
runs_back (r ∷ rs) = ap (λ t. r ∷ t) (runs_back rs)

abbrev keys : Column → List (Option Kind)
keys c = map kind_key c

abbrev runs : Column → List (Run Kind)
runs c = runs_of same_kind (keys c)

module _ (c : Column) (blocks : List Block) (are : blocks ≡ blocks_of c) where
  pub table_is : map block_run blocks ≡ runs c
  table_is = ap (map block_run) are ∙ runs_back (runs c)

  pub table_rises : Rises 1 (map block_run blocks)
  table_rises = subst (Rises 1) (sym table_is) (runs-rise same_kind kinds-decided 1 (keys c))

  key_at : (row : ℕ) (xs : Column) → row < length xs → slice_get (map kind_key xs) row ≡ Some (kind_key (slice_index_or xs row slot.Empty))
  key_at row [] h = absurd (omega (arith, h))
  key_at zero (x ∷ xs) h = refl
  key_at (suc row) (x ∷ xs) h = key_at row xs (omega (arith, h))

  length_keys : (xs : Column) → length (map kind_key xs) ≡ length xs
  length_keys [] = refl
  length_keys (x ∷ xs) = ap suc (length_keys xs)

  module _ (long : length c ≡ LAST_ROW) where
    -- the table gives each row its kind
    pub entry_is : (row : ℕ) → 1 ≤ row → row ≤ LAST_ROW → entry row (map block_run blocks) ≡ Some (kind_of (slot_in c row))
    entry_is row from to =
        let seen : Some (entry row (runs c)) ≡ Some (Some (kind_of (slot_in c row))) =
        sym (entries-row LAST_ROW row (runs c) from to)
        ∙ ap (λ es. slice_get es (row - 1)) (entries-runs same_kind kinds-decided LAST_ROW (keys c) (length_keys c ∙ long))
        ∙ key_at (row - 1) c (subst (λ n. row - 1 < n) (sym long) (omega (arith, from, to))) in
        ap (entry row) table_is ∙ bare (entry row (runs c)) (Some (kind_of (slot_in c row))) seen

    -- a row of a block is of its kind
    pub kind_is : (b : Block) → Contains blocks b → (row : ℕ) → b.first ≤ row → row ≤ b.last → 1 ≤ row → row ≤ LAST_ROW → kind_of (slot_in c row) ≡ b.kind
    kind_is b (k, within, is) row from to low high =
        let at : block_run (slice_index_or blocks k b) ≡ block_run b = ap block_run is in
        let run_at : slice_index_or (map block_run blocks) k (block_run b) ≡ block_run b = mapped blocks k ∙ at in
        bare (kind_of (slot_in c row)) b.kind (sym (entry_is row low high) ∙ entry_of 1 row k (map block_run blocks) (block_run b) table_rises (subst (λ n. k < n) (sym (length_runs blocks)) within)
        (subst (λ (r : Run Kind). r.first ≤ row) (sym run_at) from) (subst (λ (r : Run Kind). row ≤ r.last) (sym run_at) to)
        ∙ ap (λ (r : Run Kind). Some r.key) run_at)
      where
        mapped : (bs : List Block) (k : ℕ) → slice_index_or (map block_run bs) k (block_run b) ≡ block_run (slice_index_or bs k b)
        mapped [] k = refl
        mapped (x ∷ bs) zero = refl
        mapped (x ∷ bs) (suc k) = mapped bs k

        length_runs : (bs : List Block) → length (map block_run bs) ≡ length bs
        length_runs [] = refl
        length_runs (x ∷ bs) = ap suc (length_runs bs)

    -- an empty block makes more rows empty
    pub more_empty : (b : Block) → Contains blocks b → holds_something b.kind ≡ false → (first row behind : ℕ) → 1 ≤ first → b.first ≤ row → behind ≤ b.last + 1 → behind ≤ LAST_ROW + 1 → AreEmpty c first row → AreEmpty c first behind
    more_empty b within none first row behind begun from to end empty r low high =
        elim (nat_lt r row) as (λ t. nat_lt r row ≡ t → is_filled (slot_in c r) ≡ false) [
          | true ↦ λ is. empty r low (grind (arith, nat_tests, is))
          | false ↦ λ is.
              filled_kind (slot_in c r)
              ∙ ap holds_something (kind_is b within r (grind (arith, nat_tests, is, from)) (omega (arith, high, to)) (omega (arith, begun, low)) (omega (arith, high, end)))
              ∙ none
        ] refl

    pub filled_block : (b : Block) → Contains blocks b → holds_something b.kind ≡ true → (row : ℕ) → b.first ≤ row → row ≤ b.last → 1 ≤ row → row ≤ LAST_ROW → is_filled (slot_in c row) ≡ true
    filled_block b within some row from to low high = filled_kind (slot_in c row) ∙ ap holds_something (kind_is b within row from to low high) ∙ some

module _ (number : ℕ) where
  abbrev one_place : ℕ → Slot → List Place
  one_place row x = cond (is_filled x) (cell_in number row ∷ []) []

  row_more : (p n : ℕ) (xs : Column) → places_below number p (take (n + 1) xs) ≡ places_below number p (take n xs) ++ one_place (p + n) (slice_index_or xs n slot.Empty)
  row_more p n [] = taken (n + 1) ∙ ap (λ ps. ps ++ []) (sym (taken n))
    where
      taken : (n : ℕ) → places_below number p (take n []) ≡ []
      taken zero = refl
      taken (suc n) = refl
  row_more p zero (x ∷ xs) = ap (λ r. cond (is_filled x) (cell_in number r ∷ []) []) (same p)
    where
      same : (p : ℕ) → p ≡ p + 0
      same p = omega arith
  row_more p (suc n) (x ∷ xs) =
      let y : Slot = slice_index_or xs n slot.Empty in
      let behind : places_below number (p + 1) (take (n + 1) xs) ≡ places_below number (p + 1) (take n xs) ++ one_place (p + suc n) y =
      row_more (p + 1) n xs ∙ ap (λ r. places_below number (p + 1) (take n xs) ++ one_place r y) (next p n) in
      ap (λ m. places_below number p (take m (x ∷ xs))) (more n)
      ∙ elim (is_filled x) as (λ b. cond b (cell_in number p ∷ places_below number (p + 1) (take (n + 1) xs)) (places_below number (p + 1) (take (n + 1) xs)) ≡ cond b (cell_in number p ∷ places_below number (p + 1) (take n xs)) (places_below number (p + 1) (take n xs)) ++ one_place (p + suc n) y) [
        | true ↦ ap (λ t. cell_in number p ∷ t) behind
        | false ↦ behind
      ]
    where
      next : (p n : ℕ) → p + 1 + n ≡ p + suc n
      next p n = omega arith

      more : (n : ℕ) → suc n + 1 ≡ suc (n + 1)
      more n = omega arith

  module _ (first : ℕ) (c : Column) (begun : 1 ≤ first) where
    -- the places of the rows from the first up to another
    abbrev pub places_to : ℕ → List Place
    places_to row = places_below number first (take (row - first) (drop (first - 1) c))

    row_after : (row : ℕ) → first ≤ row → places_to (row + 1) ≡ places_to row ++ one_place row (slot_in c row)
    row_after row h =
        ap (λ n. places_below number first (take n (drop (first - 1) c))) (more row h)
        ∙ row_more first (row - first) (drop (first - 1) c)
        ∙ ap (λ r. places_to row ++ one_place r (slice_index_or (drop (first - 1) c) (row - first) slot.Empty)) (there row h)
        ∙ ap (λ x. places_to row ++ one_place row x) (get_or-drop (first - 1) c (row - first) slot.Empty ∙ ap (λ i. slice_index_or c i slot.Empty) (index row h))
      where
        more : (row : ℕ) → first ≤ row → row + 1 - first ≡ row - first + 1
        more row h = omega (arith, h)

        there : (row : ℕ) → first ≤ row → first + (row - first) ≡ row
        there row h = omega (arith, h)

        index : (row : ℕ) → first ≤ row → first - 1 + (row - first) ≡ row - 1
        index row h = omega (arith, h, begun)

    pub filled_after : (row : ℕ) → first ≤ row → is_filled (slot_in c row) ≡ true → places_to (row + 1) ≡ places_to row ++ cell_in number row ∷ []
    filled_after row h is = row_after row h ∙ ap (λ b. places_to row ++ cond b (cell_in number row ∷ []) []) is

    empty_steps : (k row : ℕ) → first ≤ row → AreEmpty c row (row + k) → places_to (row + k) ≡ places_to row
    empty_steps zero row h empty = ap places_to (same row)
      where
        same : (row : ℕ) → row + 0 ≡ row
        same row = omega arith
    empty_steps (suc k) row h empty =
        ap places_to (next k row)
        ∙ row_after (row + k) (omega (arith, h))
        ∙ ap (λ b. places_to (row + k) ++ cond b (cell_in number (row + k) ∷ []) []) (empty (row + k) (omega arith) (omega arith))
        ∙ at_end (places_to (row + k))
        ∙ empty_steps k row h (λ r from to. empty r from (omega (arith, to)))
      where
        next : (k row : ℕ) → row + suc k ≡ row + k + 1
        next k row = omega arith

        at_end : (ps : List Place) → ps ++ [] ≡ ps
        at_end [] = refl
        at_end (p ∷ ps) = ap (λ t. p ∷ t) (at_end ps)

    pub empty_after : (row behind : ℕ) → first ≤ row → row ≤ behind → AreEmpty c row behind → places_to behind ≡ places_to row
    empty_after row behind h order empty =
        ap places_to (there behind order) ∙ empty_steps (behind - row) row h (subst (AreEmpty c row) (there behind order) empty)
      where
        there : (behind : ℕ) → row ≤ behind → behind ≡ row + (behind - row)
        there behind order = omega (arith, order)

abbrev counts_row : (first last : ℕ) → first ≤ last → Option Kind → ℕ
counts_row first last order = row same_kind kinds-decided holds_something first last order

counts_slot : (first last : ℕ) (order : first ≤ last) (x : Slot) → counts_row first last order (kind_key x) ≡ cell_of x
counts_slot first last order x = ap (λ b. cond b 1 0) (sym (filled_kind x))

-- the rows that hold something, by the blocks
pub filled_alike : (first last : ℕ) (c : Column) → 1 ≤ first → first ≤ last → filled_among first last (blocks_of c) ≡ sum_by cell_of (rows_in first last c)
filled_alike first last c from order =
    sum_map a_block (filled_in first last) (runs c)
    ∙ rows_sum same_kind kinds-decided holds_something first last order from (keys c)
    ∙ ap (λ xs. sum_by (counts_row first last order) (take (last + 1 - first) xs)) (drop-map kind_key (first - 1) c)
    ∙ ap (sum_by (counts_row first last order)) (take-map kind_key (last + 1 - first) (drop (first - 1) c))
    ∙ sum_map kind_key (counts_row first last order) (rows_in first last c)
    ∙ sum_alike (λ x. counts_row first last order (kind_key x)) cell_of (counts_slot first last order) (rows_in first last c)

kind_formula : (x : Slot) → cond (holds_formula (kind_of x)) 1 0 ≡ formula_of x
kind_formula slot.Empty = refl
kind_formula (slot.Number n) = refl
kind_formula (slot.Words text) = refl
kind_formula (slot.Bad fault) = refl
kind_formula (slot.Raw text) = refl
kind_formula (slot.Formula id) = refl

abbrev formula_row : Option Kind → ℕ
formula_row = row same_kind kinds-decided holds_formula 1 LAST_ROW (omega arith)

-- the rows that hold a formula, by the blocks
pub formulas_alike_blocks : (c : Column) → length c ≡ LAST_ROW → formulas_by_blocks (blocks_of c) ≡ sum_by formula_of c
formulas_alike_blocks c long =
    sum_map a_block formulas_in_block (runs c)
    ∙ rows_sum same_kind kinds-decided holds_formula 1 LAST_ROW (omega arith) (omega arith) (keys c)
    ∙ ap (sum_by formula_row) (take-map kind_key LAST_ROW c ∙ ap (λ xs. map kind_key xs) (take-whole LAST_ROW c (omega (arith, long))))
    ∙ sum_map kind_key formula_row c
    ∙ sum_alike (λ x. formula_row (kind_key x)) formula_of kind_formula c
  where
    take-whole : {X : Type 0} (n : ℕ) (xs : List X) → length xs ≤ n → take n xs ≡ xs
    take-whole zero [] h = refl
    take-whole (suc n) [] h = refl
    take-whole zero (x ∷ xs) h = absurd (omega (arith, h))
    take-whole (suc n) (x ∷ xs) h = ap (λ t. x ∷ t) (take-whole n xs (omega (arith, h)))

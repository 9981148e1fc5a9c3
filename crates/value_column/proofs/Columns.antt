-- Cells of an area by their columns, and rows of a column one after the other.
use Rattle.std.proofs.Common.{◌≡◌, ℕ, zero, suc, ◌+◌, ◌-◌, ◌<◌, ◌≤◌, ◌||◌, Bool, false, cond, List, [], ◌∷◌, ◌++◌, map, Some, None, slice_get, refl, ap, ◌∙◌, arith}
use Rattle.std.specs.List.{filter, flat_map, list_any, range_with_len}
use Rattle.std.proofs.lemmas.List.Elements.{filter-append}
use Rattle.std.proofs.lemmas.List.Folds.{list_any-append}
use Rattle.calc_addr.specs.Places.{Place, column_places, from_to}

abbrev pub row_in : ℕ → ℕ → ℕ → Place
row_in sheet col row = record { sheet = sheet; col = col; row = row }

next-range : (from last : ℕ) → from ≤ last → from_to from last ≡ from ∷ from_to (from + 1) last
next-range from last h =
    let more : last + 1 - from ≡ suc (last - from) = omega arith in
    let rest : last - from ≡ last + 1 - (from + 1) = omega arith in
    ap (range_with_len from) more ∙ ap (λ n. from ∷ range_with_len (from + 1) n) rest

-- a row that doesn't pass
pub skip-row : (p : Place → Bool) (sheet col row last : ℕ) → row ≤ last → p (row_in sheet col row) ≡ false → filter p (column_places sheet col row last) ≡ filter p (column_places sheet col (row + 1) last)
skip-row p sheet col row last h no_pass =
    ap (λ rows. filter p (map (row_in sheet col) rows)) (next-range row last h)
    ∙ ap (λ b. cond b (row_in sheet col row ∷ filter p (column_places sheet col (row + 1) last)) (filter p (column_places sheet col (row + 1) last))) no_pass

none-from : (p : Place → Bool) (sheet col row n : ℕ) → ((r : ℕ) → row ≤ r → r < row + n → p (row_in sheet col r) ≡ false) → filter p (map (row_in sheet col) (range_with_len row n)) ≡ []
none-from p sheet col row zero h = refl
none-from p sheet col row (suc n) h =
    ap (λ b. cond b (row_in sheet col row ∷ filter p (map (row_in sheet col) (range_with_len (row + 1) n))) (filter p (map (row_in sheet col) (range_with_len (row + 1) n)))) (h row (omega arith) (omega arith))
    ∙ none-from p sheet col (row + 1) n (λ r m k. h r (omega arith) (omega arith))

any-from : (p : Place → Bool) (sheet col row n : ℕ) → ((r : ℕ) → row ≤ r → r < row + n → p (row_in sheet col r) ≡ false) → list_any p (map (row_in sheet col) (range_with_len row n)) ≡ false
any-from p sheet col row zero h = refl
any-from p sheet col row (suc n) h =
    ap (λ b. b || list_any p (map (row_in sheet col) (range_with_len (row + 1) n))) (h row (omega arith) (omega arith))
    ∙ any-from p sheet col (row + 1) n (λ r m k. h r (omega arith) (omega arith))

-- rows of which none passes
pub no-row : (p : Place → Bool) (sheet col row last : ℕ) → ((r : ℕ) → row ≤ r → r ≤ last → p (row_in sheet col r) ≡ false) → filter p (column_places sheet col row last) ≡ []
no-row p sheet col row last h = none-from p sheet col row (last + 1 - row) (λ r m k. h r m (omega arith))

pub no-any : (p : Place → Bool) (sheet col row last : ℕ) → ((r : ℕ) → row ≤ r → r ≤ last → p (row_in sheet col r) ≡ false) → list_any p (column_places sheet col row last) ≡ false
no-any p sheet col row last h = any-from p sheet col row (last + 1 - row) (λ r m k. h r m (omega arith))

pub any-row : (p : Place → Bool) (sheet col row last : ℕ) → row ≤ last → list_any p (column_places sheet col row last) ≡ (p (row_in sheet col row) || list_any p (column_places sheet col (row + 1) last))
any-row p sheet col row last h = ap (λ rows. list_any p (map (row_in sheet col) rows)) (next-range row last h)

-- the cells of some columns
abbrev pub cells_from : ℕ → ℕ → ℕ → ℕ → ℕ → List Place
cells_from sheet first last col last_col = flat_map (λ c. column_places sheet c first last) (from_to col last_col)

pub next-column : (p : Place → Bool) (sheet first last col last_col : ℕ) → col ≤ last_col → filter p (cells_from sheet first last col last_col) ≡ filter p (column_places sheet col first last) ++ filter p (cells_from sheet first last (col + 1) last_col)
next-column p sheet first last col last_col h =
    ap (λ cols. filter p (flat_map (λ c. column_places sheet c first last) cols)) (next-range col last_col h)
    ∙ filter-append p (column_places sheet col first last) (cells_from sheet first last (col + 1) last_col)

pub any-column : (p : Place → Bool) (sheet first last col last_col : ℕ) → col ≤ last_col → list_any p (cells_from sheet first last col last_col) ≡ (list_any p (column_places sheet col first last) || list_any p (cells_from sheet first last (col + 1) last_col))
any-column p sheet first last col last_col h =
    ap (λ cols. list_any p (flat_map (λ c. column_places sheet c first last) cols)) (next-range col last_col h)
    ∙ list_any-append p (column_places sheet col first last) (cells_from sheet first last (col + 1) last_col)

pub no-columns : (sheet first last col last_col : ℕ) → last_col < col → cells_from sheet first last col last_col ≡ []
no-columns sheet first last col last_col h =
    let none : last_col + 1 - col ≡ zero = omega arith in
    ap (λ n. flat_map (λ c. column_places sheet c first last) (range_with_len col n)) none

pub first-some : {X : Type 0} (xs ys : List X) (x : X) → slice_get xs 0 ≡ Some x → slice_get (xs ++ ys) 0 ≡ Some x
first-some [] ys x e = absurd cc
first-some (z ∷ xs) ys x e = e

pub first-none : {X : Type 0} (xs ys : List X) → slice_get xs 0 ≡ None → xs ++ ys ≡ ys
first-none [] ys e = refl
first-none (z ∷ xs) ys e = absurd cc

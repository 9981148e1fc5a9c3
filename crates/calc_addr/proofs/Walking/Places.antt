-- The cells of a rectangle: which they are, how many, and that they rise in the order of cells.
use Rattle.std.proofs.Common.{◌≡◌, ℕ, zero, suc, ◌+◌, ◌-◌, ◌*◌, ◌<◌, ◌≤◌, List, [], ◌∷◌, ◌++◌, map, length, get_or, refl, sym, ap, ◌∙◌, subst, arith, true}
use Rattle.std.specs.Prelude.{Contains, nat_le, ◌==◌}
use Rattle.std.specs.List.{AllByRecursion, AllPairs, flat_map, range_with_len}
use Rattle.std.proofs.lemmas.List.{get_or-map, length-append, length-map}
use Rattle.std.proofs.lemmas.List.Elements.{All-contains, All-from_recursion, Contains-append_left, Contains-append_right}
use Rattle.std.proofs.lemmas.List.FromFn.{length-range_with_len, get_or-range_with_len}
use Rattle.std.proofs.lemmas.Bool.{and_parts, and_from, leb-true, le-leb, eqb-true, eq-eqb}
use Rattle.calc_addr.specs.Places.{Place, Rectangle, IsBefore, cell_count, covers, from_to, places}
use Rattle.calc_addr.proofs.Walking.Order.{before_in_column, before_in_sheet}

-- what holds of each number of a range
range_all : (P : ℕ → Type 0) (first n : ℕ) → ((k : ℕ) → first ≤ k → k < first + n → P k) → AllByRecursion P (range_with_len first n)
range_all P first zero h = tt
range_all P first (suc n) h =
    (h first (omega arith) (omega arith), range_all P (first + 1) n (λ k low high. h k (omega arith) (omega arith)))

map_all : {A B : Type 0} (P : B → Type 0) (f : A → B) (xs : List A) → AllByRecursion (λ x. P (f x)) xs → AllByRecursion P (map f xs)
map_all P f [] h = tt
map_all P f (x ∷ xs) h = (h.0, map_all P f xs h.1)

append_all : {A : Type 0} (P : A → Type 0) (xs ys : List A) → AllByRecursion P xs → AllByRecursion P ys → AllByRecursion P (xs ++ ys)
append_all P [] ys h k = k
append_all P (x ∷ xs) ys h k = (h.0, append_all P xs ys h.1 k)

flat_map_all : {A B : Type 0} (P : B → Type 0) (f : A → List B) (xs : List A) → AllByRecursion (λ x. AllByRecursion P (f x)) xs → AllByRecursion P (flat_map f xs)
flat_map_all P f [] h = tt
flat_map_all P f (x ∷ xs) h = append_all P (f x) (flat_map f xs) h.0 (flat_map_all P f xs h.1)

-- membership
range_contains : (first n k : ℕ) → first ≤ k → k < first + n → Contains (range_with_len first n) k
range_contains first n k low high =
    (k - first, omega (arith, length-range_with_len first n), get_or-range_with_len first n (k - first) k (omega arith) ∙ (omega arith))

map_contains : {A B : Type 0} (f : A → B) (xs : List A) (x : A) → Contains xs x → Contains (map f xs) (f x)
map_contains f xs x h =
    (h.0, omega (arith, length-map xs f, h.1), get_or-map f xs h.0 x (f x) h.1 ∙ ap f h.2)

flat_map_contains : {A B : Type 0} (f : A → List B) (xs : List A) (x : A) (y : B) (k : ℕ) → k < length xs → get_or xs k x ≡ x → Contains (f x) y → Contains (flat_map f xs) y
flat_map_contains f [] x y k within at h = absurd (omega arith)
flat_map_contains {A} f (z ∷ xs) x y zero within at h =
    let P : A → Type 0 = λ u. Contains (f u) y in
    Contains-append_left (f z) (flat_map f xs) y (subst P (sym at) h)
flat_map_contains f (z ∷ xs) x y (suc k) within at h =
    Contains-append_right (f z) (flat_map f xs) y (flat_map_contains f xs x y k (omega arith) at h)

abbrev place_at : ℕ → ℕ → ℕ → Place
place_at sheet col row = record { sheet = sheet; col = col; row = row }

-- the cells of one column, from the first row on
abbrev column : ℕ → ℕ → ℕ → ℕ → List Place
column sheet first n col = map (place_at sheet col) (range_with_len first n)

-- both ends of the span are in it
spans : (first last k : ℕ) → first ≤ k → k ≤ last → k < first + (last + 1 - first)
spans first last k low high = omega arith

-- the facts of which `covers` is the test
pub record IsCovered (a : Rectangle) (p : Place) : Type 0 where
  pub sheet : p.sheet ≡ a.sheet
  pub cols_from : a.first_col ≤ p.col
  pub cols_to : p.col ≤ a.last_col
  pub rows_from : a.first_row ≤ p.row
  pub rows_to : p.row ≤ a.last_row

pub IsCovered-from : (a : Rectangle) (p : Place) → covers a p ≡ true → IsCovered a p
IsCovered-from a p h =
    let row_to = and_parts _ (nat_le p.row a.last_row) h in
    let row_from = and_parts _ (nat_le a.first_row p.row) row_to.0 in
    let col_to = and_parts _ (nat_le p.col a.last_col) row_from.0 in
    let col_from = and_parts (p.sheet == a.sheet) (nat_le a.first_col p.col) col_to.0 in
    record {
      sheet = eqb-true _ _ col_from.0;
      cols_from = leb-true _ _ col_from.1;
      cols_to = leb-true _ _ col_to.1;
      rows_from = leb-true _ _ row_from.1;
      rows_to = leb-true _ _ row_to.1;
    }

pub covers-true : (a : Rectangle) (p : Place) → IsCovered a p → covers a p ≡ true
covers-true a p h =
    and_from _ (nat_le p.row a.last_row)
    (and_from _ (nat_le a.first_row p.row)
    (and_from _ (nat_le p.col a.last_col)
    (and_from (p.sheet == a.sheet) (nat_le a.first_col p.col) (eq-eqb _ _ h.sheet) (le-leb _ _ h.cols_from)) (le-leb _ _ h.cols_to))
    (le-leb _ _ h.rows_from))
    (le-leb _ _ h.rows_to)

places_covered : (a : Rectangle) → AllByRecursion (λ p. covers a p ≡ true) (places a)
places_covered a =
    flat_map_all (λ p. covers a p ≡ true) (column a.sheet a.first_row (a.last_row + 1 - a.first_row)) (from_to a.first_col a.last_col)
    (range_all _ a.first_col (a.last_col + 1 - a.first_col)
    (λ col col_low col_high. map_all (λ p. covers a p ≡ true) (place_at a.sheet col) (from_to a.first_row a.last_row)
    (range_all _ a.first_row (a.last_row + 1 - a.first_row)
    (λ row row_low row_high. covers-true a (place_at a.sheet col row)
    (record { sheet = refl; cols_from = col_low; cols_to = omega arith; rows_from = row_low; rows_to = omega arith })))))

-- the cells of a rectangle are those that it covers
pub covers-contained : (a : Rectangle) (p : Place) → Contains (places a) p → covers a p ≡ true
covers-contained a p h =
    All-contains (λ q. covers a q ≡ true) (places a) p (All-from_recursion (λ q. covers a q ≡ true) (places a) (places_covered a)) h

pub Contains-places : (a : Rectangle) (p : Place) → covers a p ≡ true → Contains (places a) p
Contains-places a p h =
    let is = IsCovered-from a p h in
    let col = range_contains a.first_col (a.last_col + 1 - a.first_col) p.col is.cols_from (spans _ _ _ is.cols_from is.cols_to) in
    let row = range_contains a.first_row (a.last_row + 1 - a.first_row) p.row is.rows_from (spans _ _ _ is.rows_from is.rows_to) in
    let there = map_contains (place_at a.sheet p.col) (from_to a.first_row a.last_row) p.row row in
    let same : place_at a.sheet p.col p.row ≡ p = ap (λ sheet. place_at sheet p.col p.row) (sym is.sheet) in
    let Among : Place → Type 0 = λ q. Contains (places a) q in
    subst Among same
    (flat_map_contains (column a.sheet a.first_row (a.last_row + 1 - a.first_row)) (from_to a.first_col a.last_col) p.col (place_at a.sheet p.col p.row) col.0 col.1 col.2 there)

length-flat_map_same : {A B : Type 0} (f : A → List B) (n : ℕ) (xs : List A) → ((x : A) → length (f x) ≡ n) → length (flat_map f xs) ≡ length xs * n
length-flat_map_same f n [] h = omega arith
length-flat_map_same f n (x ∷ xs) h =
    omega (arith, length-append (f x) (flat_map f xs), h x, length-flat_map_same f n xs h)

-- a rectangle has its columns times its rows
pub length-places : (a : Rectangle) → length (places a) ≡ cell_count a
length-places a =
    let rows = a.last_row + 1 - a.first_row in
    length-flat_map_same (column a.sheet a.first_row rows) rows (from_to a.first_col a.last_col)
    (λ col. length-map (range_with_len a.first_row rows) (place_at a.sheet col) ∙ length-range_with_len a.first_row rows)
    ∙ ap (λ n. n * rows) (length-range_with_len a.first_col (a.last_col + 1 - a.first_col))

-- each cell of the list comes before all those after it
abbrev pub Rises : List Place → Type 0
Rises [] = Unit {0}
Rises (p ∷ ps) = AllByRecursion (IsBefore p) ps × Rises ps

Rises-append : (ps qs : List Place) → Rises ps → Rises qs → AllByRecursion (λ p. AllByRecursion (IsBefore p) qs) ps → Rises (ps ++ qs)
Rises-append [] qs h k apart = k
Rises-append (p ∷ ps) qs h k apart =
    (append_all (IsBefore p) ps qs h.0 apart.0, Rises-append ps qs h.1 k apart.1)

column_rises : (sheet first n col : ℕ) → Rises (column sheet first n col)
column_rises sheet first zero col = tt
column_rises sheet first (suc n) col = (
  map_all (IsBefore (place_at sheet col first)) (place_at sheet col) (range_with_len (first + 1) n)
      (range_all _ (first + 1) n (λ row low high. before_in_column sheet col first row (omega arith))),
  column_rises sheet (first + 1) n col,
)

columns_rise : (sheet first_row rows first n : ℕ) → Rises (flat_map (column sheet first_row rows) (range_with_len first n))
columns_rise sheet first_row rows first zero = tt
columns_rise sheet first_row rows first (suc n) =
    Rises-append (column sheet first_row rows first) (flat_map (column sheet first_row rows) (range_with_len (first + 1) n))
    (column_rises sheet first_row rows first)
    (columns_rise sheet first_row rows (first + 1) n)
    (map_all _ (place_at sheet first) (range_with_len first_row rows)
    (range_all _ first_row rows
    (λ row row_low row_high. flat_map_all (IsBefore (place_at sheet first row)) (column sheet first_row rows) (range_with_len (first + 1) n)
    (range_all _ (first + 1) n
    (λ col low high. map_all (IsBefore (place_at sheet first row)) (place_at sheet col) (range_with_len first_row rows)
    (range_all _ first_row rows (λ other other_low other_high. before_in_sheet sheet first col row other (omega arith))))))))

-- the cells of a rectangle rise in area order
pub places_rise : (a : Rectangle) → Rises (places a)
places_rise a = columns_rise a.sheet a.first_row (a.last_row + 1 - a.first_row) a.first_col (a.last_col + 1 - a.first_col)

pub AllPairs-from_rises : (ps : List Place) → Rises ps → AllPairs IsBefore ps
AllPairs-from_rises [] h i j d before within = absurd (omega arith)
AllPairs-from_rises (p ∷ ps) h zero zero d before within = absurd (omega arith)
AllPairs-from_rises (p ∷ ps) h zero (suc j) d before within =
    All-from_recursion (IsBefore p) ps h.0 j d (omega arith)
AllPairs-from_rises (p ∷ ps) h (suc i) zero d before within = absurd (omega arith)
AllPairs-from_rises (p ∷ ps) h (suc i) (suc j) d before within =
    AllPairs-from_rises ps h.1 i j d (omega arith) (omega arith)

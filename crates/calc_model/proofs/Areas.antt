-- Tests of all cells of an area, and the cells that it covers.
use Rattle.std.proofs.Common.{◌≡◌, ℕ, zero, suc, ◌+◌, ◌-◌, ◌<◌, ◌≤◌, Bool, true, false, ◌&&◌, List, [], ◌∷◌, map, refl, sym, ap, subst, ◌∙◌, arith}
use Rattle.std.proofs.lemmas.Bool.Decides.{nat_tests}
use Rattle.std.proofs.lemmas.List.Folds.{list_all-map, list_all-append}
use Rattle.std.specs.List.{list_all, flat_map, range_with_len}
use Rattle.calc_addr.specs.Places.{Place, Rectangle, covers, places, from_to}

-- what it means that an area covers a cell
pub record Inside (a : Rectangle) (p : Place) : Type 0 where
  pub same_sheet : p.sheet ≡ a.sheet
  pub col_from : a.first_col ≤ p.col
  pub col_to : p.col ≤ a.last_col
  pub row_from : a.first_row ≤ p.row
  pub row_to : p.row ≤ a.last_row

pub inside : (a : Rectangle) (p : Place) → covers a p ≡ true → Inside a p
inside a p h = record {
  same_sheet = grind (arith, nat_tests);
  col_from = grind (arith, nat_tests);
  col_to = grind (arith, nat_tests);
  row_from = grind (arith, nat_tests);
  row_to = grind (arith, nat_tests);
}

pub covered : (a : Rectangle) (p : Place) → Inside a p → covers a p ≡ true
covered a p h = grind (arith, nat_tests)

pub both_true : (b c : Bool) → (b && c) ≡ true → (b ≡ true) × (c ≡ true)
both_true true c h = (refl, h)
both_true false c h = cc

range_all : (p : ℕ → Bool) (a n x : ℕ) → list_all p (range_with_len a n) ≡ true → a ≤ x → x < a + n → p x ≡ true
range_all p a zero x h from to = absurd (omega arith)
range_all p a (suc n) x h from to =
    let parts = both_true (p a) (list_all p (range_with_len (a + 1) n)) h in
    grind (arith, parts.0, parts.1, range_all p (a + 1) n x parts.1)

pub all_range : (p : ℕ → Bool) (a n : ℕ) → ((x : ℕ) → a ≤ x → x < a + n → p x ≡ true) → list_all p (range_with_len a n) ≡ true
all_range p a zero h = refl
all_range p a (suc n) h =
    let first : p a ≡ true = h a (omega arith) (omega arith) in
    let rest : list_all p (range_with_len (a + 1) n) ≡ true = all_range p (a + 1) n (λ x from to. h x (omega arith) (omega arith)) in
    rw (first, rest) refl

list_all-flat_map : {X Y : Type 0} (p : Y → Bool) (f : X → List Y) (xs : List X) → list_all p (flat_map f xs) ≡ list_all (λ x. list_all p (f x)) xs
list_all-flat_map p f [] = refl
list_all-flat_map p f (x ∷ xs) = list_all-append p (f x) (flat_map f xs) ∙ ap (λ b. list_all p (f x) && b) (list_all-flat_map p f xs)

-- a test of all cells of an area, as a test of its columns and rows
by_columns : (p : Place → Bool) (a : Rectangle) → list_all p (places a) ≡ list_all (λ col. list_all (λ row. p (record { sheet = a.sheet; col = col; row = row })) (from_to a.first_row a.last_row)) (from_to a.first_col a.last_col)
by_columns p a =
    list_all-flat_map p (λ col. map (λ row. record { sheet = a.sheet; col = col; row = row }) (from_to a.first_row a.last_row)) (from_to a.first_col a.last_col)
    ∙ simp list_all-map

-- what all cells of an area pass, each cell that it covers passes
pub places_all : (p : Place → Bool) (a : Rectangle) → list_all p (places a) ≡ true → (q : Place) → covers a q ≡ true → p q ≡ true
places_all p a h q c =
    let i : Inside a q = inside a q c in
    let cols = by_columns p a in
    let at_col : list_all (λ row. p (record { sheet = a.sheet; col = q.col; row = row })) (from_to a.first_row a.last_row) ≡ true =
    range_all (λ col. list_all (λ row. p (record { sheet = a.sheet; col = col; row = row })) (from_to a.first_row a.last_row)) a.first_col (a.last_col + 1 - a.first_col) q.col (sym cols ∙ h) i.col_from (omega arith) in
    let at_row : p (record { sheet = a.sheet; col = q.col; row = q.row }) ≡ true =
    range_all (λ row. p (record { sheet = a.sheet; col = q.col; row = row })) a.first_row (a.last_row + 1 - a.first_row) q.row at_col i.row_from (omega arith) in
    subst (λ sheet. p (record { sheet = sheet; col = q.col; row = q.row }) ≡ true) (sym i.same_sheet) at_row

pub all_places : (p : Place → Bool) (a : Rectangle) → ((q : Place) → covers a q ≡ true → p q ≡ true) → list_all p (places a) ≡ true
all_places p a h =
    by_columns p a
    ∙ all_range (λ col. list_all (λ row. p (record { sheet = a.sheet; col = col; row = row })) (from_to a.first_row a.last_row)) a.first_col (a.last_col + 1 - a.first_col) (λ col from to.
    all_range (λ row. p (record { sheet = a.sheet; col = col; row = row })) a.first_row (a.last_row + 1 - a.first_row) (λ row above below.
    h (record { sheet = a.sheet; col = col; row = row })
    (covered a _ (record { same_sheet = refl; col_from = from; col_to = omega arith; row_from = above; row_to = omega arith }))))

-- Cells by their numbers, and the cells of one run.
use Rattle.std.proofs.Common.{◌≡◌, ℕ, ◌+◌, ◌-◌, ◌<◌, ◌≤◌, List, ◌++◌, map, length, get_or, slice_get, Some, IfSome, option_map, refl, sym, ap, subst, ◌∙◌, inl, inr, ◌⊎◌, arith}
use Rattle.std.specs.Ordering.{nat_cmp, ordering_then}
use Rattle.std.specs.declared.cmp.Ordering.{Ordering}
use Rattle.std.specs.declared.cmp.Ordering.TheVariants.{Less}
use Rattle.std.specs.List.{Contains}
use Rattle.std.proofs.lemmas.Bool.Decides.{nat_tests}
use Rattle.std.proofs.lemmas.List.{length-append, get_or_append_left, get_or-append-add}
use Rattle.std.proofs.lemmas.List.FromFn.{get_or-map-range_with_len, length-map-range_with_len}
use Rattle.std.proofs.lemmas.Option.{slice_get-get_or, get_or_from_slice_get, slice_get_within, slice_get-map, slice_get_read}
use Rattle.calc_addr.specs.Places.{Place, IsPlace, Rows, IsBefore}
use Rattle.cell_runs.specs.CellLists.{cells_of, number_of}

abbrev pub cell_number : Place → ℕ
cell_number p = number_of p.sheet p.col p.row

then-less : (a b : ℕ) (o : Ordering) → ordering_then (nat_cmp a b) o ≡ Less → (a < b) ⊎ ((a ≡ b) × (o ≡ Less))
then-less a b o h = grind (arith, nat_tests)

cmp-less : (a b : ℕ) → nat_cmp a b ≡ Less → a < b
cmp-less a b h = grind (arith, nat_tests)

-- area order is the order of numbers
pub before-number : (p q : Place) → IsPlace p → IsPlace q → IsBefore p q → cell_number p < cell_number q
before-number p q hp hq b = by_sheet (then-less p.sheet q.sheet (ordering_then (nat_cmp p.col q.col) (nat_cmp p.row q.row)) b)
  where
    by_col : p.sheet ≡ q.sheet → (p.col < q.col) ⊎ ((p.col ≡ q.col) × (nat_cmp p.row q.row ≡ Less)) → cell_number p < cell_number q
    by_col s (inl c) = omega (arith, hp.row_to, hq.row_from)
    by_col s (inr c) = omega (arith, c.0, cmp-less p.row q.row c.1)

    by_sheet : (p.sheet < q.sheet) ⊎ ((p.sheet ≡ q.sheet) × (ordering_then (nat_cmp p.col q.col) (nat_cmp p.row q.row) ≡ Less)) → cell_number p < cell_number q
    by_sheet (inl s) = omega (arith, hp.col_to, hp.row_to, hq.col_from, hq.row_from)
    by_sheet (inr s) = by_col s.0 (then-less p.col q.col (nat_cmp p.row q.row) s.1)

pub length-cells : (r : Rows) → length (cells_of r) ≡ r.last + 1 - r.first
length-cells r = length-map-range_with_len (λ row. record { sheet = r.sheet; col = r.col; row = row }) r.first (r.last + 1 - r.first)

pub cell_at : (r : Rows) (i : ℕ) (d : Place) → i < r.last + 1 - r.first → get_or (cells_of r) i d ≡ record { sheet = r.sheet; col = r.col; row = r.first + i }
cell_at r i d h = get_or-map-range_with_len (λ row. record { sheet = r.sheet; col = r.col; row = row }) r.first (r.last + 1 - r.first) i (r.first + i) d h refl

-- a list in front of another
pub slice_get-left : {X : Type 0} (xs ys : List X) (i : ℕ) (x : X) → i < length xs → get_or xs i x ≡ x → slice_get (xs ++ ys) i ≡ Some x
slice_get-left xs ys i x h e = slice_get-get_or (xs ++ ys) i x (omega (arith, length-append xs ys)) ∙ ap Some (get_or_append_left xs ys x i h ∙ e)

pub slice_get-right : {X : Type 0} (xs ys : List X) (i : ℕ) (x : X) → slice_get ys i ≡ Some x → slice_get (xs ++ ys) (length xs + i) ≡ Some x
slice_get-right xs ys i x e =
    slice_get-get_or (xs ++ ys) (length xs + i) x (omega (arith, length-append xs ys, slice_get_within ys i x e))
    ∙ ap Some (get_or-append-add xs ys i x ∙ get_or_from_slice_get ys i x x e)

-- a cell of a run
pub record LiesIn (c : Place) (r : Rows) : Type 0 where
  pub sheet : c.sheet ≡ r.sheet
  pub col : c.col ≡ r.col
  pub from : r.first ≤ c.row
  pub to : c.row ≤ r.last

pub lies_in : (c : Place) (r : Rows) → Contains (cells_of r) c → LiesIn c r
lies_in c r (k, less, is) =
    let within : k < r.last + 1 - r.first = omega (arith, length-cells r) in
    let e : record { sheet = r.sheet; col = r.col; row = r.first + k } ≡ c = sym (cell_at r k c within) ∙ is in
    let row : r.first + k ≡ c.row = ap (λ p. p.row) e in
    record { sheet = sym (ap (λ p. p.sheet) e); col = sym (ap (λ p. p.col) e); from = omega arith; to = omega arith }

pub mapped_at : {P R : Type 0} (run : P → R) (xs : List P) (i j : ℕ) (x : P) (Q : R → Type 0) → i < length xs → x ≡ get_or xs i x → i ≡ j → Q (run x) → IfSome (slice_get (map run xs) j) Q
mapped_at run xs i j x Q h is e q =
    subst (λ o. IfSome o Q) (sym (ap (slice_get (map run xs)) (sym e) ∙ slice_get-map run xs i ∙ ap (option_map run) (slice_get_read xs (length xs) i x refl h is))) q

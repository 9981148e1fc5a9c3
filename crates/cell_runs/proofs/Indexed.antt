-- Runs with the places of their first cells.
use Rattle.std.proofs.Common.{◌≡◌, ◌≢◌, ℕ, zero, suc, ◌+◌, ◌-◌, ◌^◌, ◌<◌, ◌≤◌, List, [], ◌∷◌, ◌++◌, map, take, drop, length, get_or, sym, ap, subst, ◌∙◌, arith}
use Rattle.std.proofs.Math.ListN.{set}
use Rattle.std.specs.List.{range_with_len}
use Rattle.std.proofs.lemmas.Grind.{flat_map-append}
use Rattle.std.proofs.lemmas.List.{map-append, length-append, append-nil, append_assoc, get_or_append_left, get_or-append-add, take_all, take_more, drop_all, set_split}
use Rattle.calc_addr.specs.Places.{Place, IsPlace, Rows, IsRows, IsBefore}
use Rattle.cell_runs.specs.CellLists.{all_cells, cells_of, first_cell, first_number, number_of, IsIndexed, IsList, LieBefore}
use Rattle.cell_runs.proofs.Numbers.{before-number, length-cells, cell_at}

pub index-total : (p f : ℕ) (rs : List Rows) (ss : List ℕ) → IsIndexed p f rs ss → p ≤ f → f ≤ 2 ^ 35 → p + length (all_cells rs) ≤ 2 ^ 35
index-total p f [] [] h le top = omega arith
index-total p f [] (s ∷ ss) h le top = absurd h
index-total p f (r ∷ rs) [] h le top = absurd h
index-total p f (r ∷ rs) (s ∷ ss) h le top =
    let rows : IsRows r = h.1 in
    let from : f ≤ first_number r = h.2 in
    let rest = index-total (p + (r.last + 1 - r.first)) (number_of r.sheet r.col r.last + 1) rs ss h.3 (omega (arith, rows.in_order)) (omega (arith, rows.sheet_in, rows.col_to, rows.to)) in
    omega (arith, length-append (cells_of r) (all_cells rs), length-cells r)

last-before : (x r : Rows) (cells : List Place) → IsRows x → IsRows r → LieBefore (cells_of x ++ cells) r → number_of x.sheet x.col x.last + 1 ≤ first_number r
last-before x r cells hx hr before =
    let last : Place = record { sheet = x.sheet; col = x.col; row = x.last } in
    let k : ℕ = x.last - x.first in
    let less : k < length (cells_of x) = omega (arith, length-cells x, hx.in_order) in
    let row : x.first + k ≡ x.last = omega (arith, hx.in_order) in
    let at : get_or (cells_of x ++ cells) k last ≡ last = get_or_append_left (cells_of x) cells last k less ∙ cell_at x k last (omega (arith, hx.in_order)) ∙ ap (λ v. record { sheet = x.sheet; col = x.col; row = v }) row in
    let b : IsBefore last (first_cell r) = subst (λ p. IsBefore p (first_cell r)) at (before k last (omega (arith, length-append (cells_of x) cells))) in
    let valid : IsPlace last = record { sheet_in = hx.sheet_in; col_from = hx.col_from; col_to = hx.col_to; row_from = omega (arith, hx.from, hx.in_order); row_to = hx.to } in
    let first : IsPlace (first_cell r) = record { sheet_in = hr.sheet_in; col_from = hr.col_from; col_to = hr.col_to; row_from = hr.from; row_to = omega (arith, hr.in_order, hr.to) } in
    omega (arith, before-number last (first_cell r) valid first b)

before-tail : (x r : Rows) (cells : List Place) → LieBefore (cells_of x ++ cells) r → LieBefore cells r
before-tail x r cells before = λ k d less.
    subst (λ p. IsBefore p (first_cell r)) (get_or-append-add (cells_of x) cells k d) (before (length (cells_of x) + k) d (omega (arith, length-append (cells_of x) cells)))

pub index-push : (p f : ℕ) (rs : List Rows) (ss : List ℕ) (r : Rows) (s : ℕ) → IsIndexed p f rs ss → f ≤ first_number r → IsRows r → LieBefore (all_cells rs) r → s ≡ p + length (all_cells rs) → IsIndexed p f (rs ++ r ∷ []) (ss ++ s ∷ [])
index-push p f [] [] r s h from rows before e = (omega arith, rows, from, tt)
index-push p f [] (y ∷ ss) r s h from rows before e = absurd h
index-push p f (x ∷ rs) [] r s h from rows before e = absurd h
index-push p f (x ∷ rs) (y ∷ ss) r s h from rows before e = (
  h.0,
  h.1,
  h.2,
  index-push (p + (x.last + 1 - x.first)) (number_of x.sheet x.col x.last + 1) rs ss r s h.3 (last-before x r (all_cells rs) h.1 rows before) rows (before-tail x r (all_cells rs) before)
      (omega (arith, length-append (cells_of x) (all_cells rs), length-cells x)),
)

-- the last run lengthened
pub index-longer : (p f : ℕ) (ws : List Rows) (x y : Rows) (ss : List ℕ) → IsIndexed p f (ws ++ x ∷ []) ss → first_number y ≡ first_number x → IsRows y → IsIndexed p f (ws ++ y ∷ []) ss
index-longer p f [] x y [] h same rows = absurd h
index-longer p f [] x y (s ∷ []) h same rows = (h.0, rows, omega (arith, h.2), tt)
index-longer p f [] x y (s ∷ z ∷ ss) h same rows = absurd h.3
index-longer p f (w ∷ ws) x y [] h same rows = absurd h
index-longer p f (w ∷ ws) x y (s ∷ ss) h same rows =
    (h.0, h.1, h.2, index-longer (p + (w.last + 1 - w.first)) (number_of w.sheet w.col w.last + 1) ws x y ss h.3 same rows)

range-append : (a n m : ℕ) → range_with_len a (n + m) ≡ range_with_len a n ++ range_with_len (a + n) m
range-append a zero m =
    let e : zero + m ≡ m = omega arith in
    let f : a ≡ a + zero = omega arith in
    ap (range_with_len a) e ∙ ap (λ b. range_with_len b m) f
range-append a (suc n) m =
    let e : suc n + m ≡ suc (n + m) = omega arith in
    let f : a + 1 + n ≡ a + suc n = omega arith in
    ap (range_with_len a) e ∙ ap (λ v. a ∷ v) (range-append (a + 1) n m ∙ ap (λ b. range_with_len (a + 1) n ++ range_with_len b m) f)

-- two runs, the second right behind the first, as one
pub cells-joined : (x r : Rows) → x.sheet ≡ r.sheet → x.col ≡ r.col → x.last + 1 ≡ r.first → x.first ≤ x.last → r.first ≤ r.last → cells_of (record x { last = r.last }) ≡ cells_of x ++ cells_of r
cells-joined x r s c next hx hr =
    let here : ℕ → Place = λ row. record { sheet = x.sheet; col = x.col; row = row } in
    let n : ℕ = x.last + 1 - x.first in
    let m : ℕ = r.last + 1 - r.first in
    let all : r.last + 1 - x.first ≡ n + m = omega arith in
    let from : x.first + n ≡ r.first = omega arith in
    ap (λ k. map here (range_with_len x.first k)) all
    ∙ ap (map here) (range-append x.first n m ∙ ap (λ b. range_with_len x.first n ++ range_with_len b m) from)
    ∙ map-append here (range_with_len x.first n) (range_with_len r.first m)
    ∙ ap (λ v. cells_of x ++ map (λ row. record { sheet = v; col = x.col; row = row }) (range_with_len r.first m)) s
    ∙ ap (λ v. cells_of x ++ map (λ row. record { sheet = r.sheet; col = v; row = row }) (range_with_len r.first m)) c

-- a list of runs whose last is lengthened
pub record Longer (rs : List Rows) (ss : List ℕ) (n : ℕ) (y r : Rows) (len : ℕ) : Type 0 where
  pub list : IsList (set rs (n - 1) y) ss (len + (r.last + 1 - r.first))
  pub cells : all_cells (set rs (n - 1) y) ≡ all_cells rs ++ cells_of r
  pub short : len + (r.last + 1 - r.first) ≤ 2 ^ 35

pub longer : (rs : List Rows) (ss : List ℕ) (n : ℕ) (x y r : Rows) (len : ℕ) → IsList rs ss len → n ≡ length rs → n ≢ zero → x ≡ get_or rs (n - 1) x → y ≡ record x { last = r.last } → x.sheet ≡ r.sheet → x.col ≡ r.col → x.last + 1 ≡ r.first → IsRows x → IsRows r → IsRows y → Longer rs ss n y r len
longer rs ss n x y r len h size ne is made s c next hx hr hy =
    let i : ℕ = n - 1 in
    let within : i < length rs = omega arith in
    let whole : i + 1 ≡ length rs = omega arith in
    let split : rs ≡ take i rs ++ x ∷ [] =
    sym (take_all (i + 1) rs (omega arith)) ∙ take_more rs i x within ∙ ap (λ v. take i rs ++ v ∷ []) (sym is) in
    let none : drop (suc i) rs ≡ [] = drop_all (suc i) rs (omega arith) in
    let new : set rs i y ≡ take i rs ++ y ∷ [] = set_split rs i y within ∙ ap (λ v. take i rs ++ y ∷ v) none in
    let number : first_number y ≡ first_number x = ap first_number made in
    let indexed : IsIndexed zero zero (take i rs ++ y ∷ []) ss = index-longer zero zero (take i rs) x y ss (subst (λ v. IsIndexed zero zero v ss) split h.indexed) number hy in
    let last_cells : cells_of y ≡ cells_of x ++ cells_of r = ap cells_of made ∙ cells-joined x r s c next hx.in_order hr.in_order in
    let old_cells : all_cells rs ≡ all_cells (take i rs) ++ cells_of x =
    ap all_cells split ∙ flat_map-append cells_of (take i rs) (x ∷ []) ∙ ap (λ v. all_cells (take i rs) ++ v) (append-nil (cells_of x)) in
    let new_cells : all_cells (set rs i y) ≡ all_cells rs ++ cells_of r =
    ap all_cells new ∙ flat_map-append cells_of (take i rs) (y ∷ []) ∙ ap (λ v. all_cells (take i rs) ++ v) (append-nil (cells_of y) ∙ last_cells)
    ∙ sym (append_assoc (all_cells (take i rs)) (cells_of x) (cells_of r)) ∙ ap (λ v. v ++ cells_of r) (sym old_cells) in
    let count : len + (r.last + 1 - r.first) ≡ length (all_cells (set rs i y)) = omega (arith, h.counted, ap length new_cells, length-append (all_cells rs) (cells_of r), length-cells r) in
    let list : IsIndexed zero zero (set rs i y) ss = subst (λ v. IsIndexed zero zero v ss) (sym new) indexed in
    record {
      list = record { indexed = list; counted = count };
      cells = new_cells;
      short = omega (arith, index-total zero zero (set rs i y) ss list (omega arith) (omega arith));
    }

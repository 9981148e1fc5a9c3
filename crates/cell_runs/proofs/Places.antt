-- What stands at a place of a list of runs, and which cells a list hasn't.
use Rattle.std.proofs.Common.{◌≡◌, ℕ, zero, suc, ◌+◌, ◌-◌, ◌<◌, ◌≤◌, ◌≢◌, List, [], ◌∷◌, map, length, get_or, slice_get, Some, None, IfSome, option_map, refl, sym, ap, subst, ◌∙◌, inl, inr, ◌⊎◌, arith}
use Rattle.std.specs.List.{Contains}
use Rattle.std.proofs.lemmas.List.{length-append}
use Rattle.std.proofs.lemmas.List.Elements.{Contains-append_cases}
use Rattle.std.proofs.lemmas.Option.{slice_get-map, slice_get_read}
use Rattle.calc_addr.specs.Places.{Place, Rows, IsRows}
use Rattle.cell_runs.specs.CellLists.{all_cells, cells_of, first_number, number_of, IsIndexed, IsFirstAbove}
use Rattle.cell_runs.proofs.Numbers.{cell_number, length-cells, cell_at, slice_get-left, slice_get-right, LiesIn, lies_in}

-- a run of a list, with the place of its first cell
pub record RunAt (p : ℕ) (rs : List Rows) (i : ℕ) (r : Rows) (s : ℕ) : Type 0 where
  pub rows : IsRows r
  pub from : p ≤ s
  pub to : s + (r.last + 1 - r.first) ≤ p + length (all_cells rs)
  pub cells : (k : ℕ) → k < r.last + 1 - r.first → slice_get (all_cells rs) (s - p + k) ≡ Some (record { sheet = r.sheet; col = r.col; row = r.first + k })

pub run-at : (p f i : ℕ) (rs : List Rows) (ss : List ℕ) (r : Rows) (s : ℕ) → IsIndexed p f rs ss → slice_get rs i ≡ Some r → slice_get ss i ≡ Some s → RunAt p rs i r s
run-at p f i [] ss r s h e g = absurd cc
run-at p f i (x ∷ rs) [] r s h e g = absurd h
run-at p f zero (x ∷ rs) (y ∷ ss) r s h e g =
    let run : x ≡ r = cc in
    let place : y ≡ s = cc in
    let len : length (all_cells (x ∷ rs)) ≡ (x.last + 1 - x.first) + length (all_cells rs) = omega (arith, length-append (cells_of x) (all_cells rs), length-cells x) in
    let at : RunAt p (x ∷ rs) zero x p = record {
      rows = h.1;
      from = omega arith;
      to = omega arith;
      cells = λ k less. let q : p - p + k ≡ k = omega arith in
          ap (slice_get (all_cells (x ∷ rs))) q ∙ slice_get-left (cells_of x) (all_cells rs) k (record { sheet = x.sheet; col = x.col; row = x.first + k }) (omega (arith, length-cells x)) (cell_at x k (record { sheet = x.sheet; col = x.col; row = x.first + k }) less);
    } in
    subst (λ v. RunAt p (x ∷ rs) zero r v) (sym h.0 ∙ place) (subst (λ v. RunAt p (x ∷ rs) zero v p) run at)
run-at p f (suc i) (x ∷ rs) (y ∷ ss) r s h e g =
    let n : ℕ = x.last + 1 - x.first in
    let rest : RunAt (p + n) rs i r s = run-at (p + n) (number_of x.sheet x.col x.last + 1) i rs ss r s h.3 e g in
    let from : p + n ≤ s = rest.from in
    record {
      rows = rest.rows;
      from = omega arith;
      to = omega (arith, rest.to, length-append (cells_of x) (all_cells rs), length-cells x);
      cells = λ k less.
          let q : s - p + k ≡ length (cells_of x) + (s - (p + n) + k) = omega (arith, length-cells x) in
          ap (slice_get (all_cells (x ∷ rs))) q ∙ slice_get-right (cells_of x) (all_cells rs) (s - (p + n) + k) (record { sheet = r.sheet; col = r.col; row = r.first + k }) (rest.cells k less);
    }

-- the cells of the last run that begins at a place or in front of it go past the place
pub run-reaches : (p f i place : ℕ) (rs : List Rows) (ss : List ℕ) (r : Rows) (s : ℕ) → IsIndexed p f rs ss → slice_get rs i ≡ Some r → slice_get ss i ≡ Some s → IfSome (slice_get ss (suc i)) (λ v. place < v) → place < p + length (all_cells rs) → place < s + (r.last + 1 - r.first)
run-reaches p f i place [] ss r s h e g next less = absurd cc
run-reaches p f i place (x ∷ rs) [] r s h e g next less = absurd h
run-reaches p f zero place (x ∷ []) (y ∷ []) r s h e g next less =
    let run : x ≡ r = cc in
    let at : y ≡ s = cc in
    subst (λ v. place < s + (v.last + 1 - v.first)) run (omega (arith, h.0, length-append (cells_of x) [], length-cells x))
run-reaches p f zero place (x ∷ []) (y ∷ z ∷ ss) r s h e g next less = absurd h.3
run-reaches p f zero place (x ∷ w ∷ rs) (y ∷ []) r s h e g next less = absurd h.3
run-reaches p f zero place (x ∷ w ∷ rs) (y ∷ z ∷ ss) r s h e g next less =
    let run : x ≡ r = cc in
    let at : y ≡ s = cc in
    subst (λ v. place < s + (v.last + 1 - v.first)) run (omega (arith, h.0, h.3.0, next))
run-reaches p f (suc i) place (x ∷ rs) (y ∷ ss) r s h e g next less =
    run-reaches (p + (x.last + 1 - x.first)) (number_of x.sheet x.col x.last + 1) i place rs ss r s h.3 e g next (omega (arith, length-append (cells_of x) (all_cells rs), length-cells x))

-- a cell with a number in front of all runs
none-behind : (p f : ℕ) (rs : List Rows) (ss : List ℕ) (c : Place) → IsIndexed p f rs ss → cell_number c < f → Contains (all_cells rs) c → ⊥
none-behind p f [] ss c h less (k, within, is) = omega arith
none-behind p f (x ∷ rs) [] c h less in_list = absurd h
none-behind p f (x ∷ rs) (y ∷ ss) c h less in_list =
    let rows : IsRows x = h.1 in
    let past : cell_number c < number_of x.sheet x.col x.last + 1 = omega (arith, h.2, rows.in_order) in
    elim (Contains-append_cases (cells_of x) (all_cells rs) c in_list) [
      | inl here ↦ (let lies : LiesIn c x = lies_in c x here in omega (arith, h.2, lies.sheet, lies.col, lies.from))
      | inr rest ↦ none-behind (p + (x.last + 1 - x.first)) (number_of x.sheet x.col x.last + 1) rs ss c h.3 past rest
    ]

reaches : (p f i : ℕ) (rs : List Rows) (ss : List ℕ) (r : Rows) → IsIndexed p f rs ss → slice_get rs i ≡ Some r → f ≤ first_number r
reaches p f i [] ss r h e = absurd cc
reaches p f i (x ∷ rs) [] r h e = absurd h
reaches p f zero (x ∷ rs) (y ∷ ss) r h e = let run : x ≡ r = cc in subst (λ v. f ≤ first_number v) run h.2
reaches p f (suc i) (x ∷ rs) (y ∷ ss) r h e =
    let rows : IsRows x = h.1 in
    let rest = reaches (p + (x.last + 1 - x.first)) (number_of x.sheet x.col x.last + 1) i rs ss r h.3 e in
    omega (arith, h.2, rows.in_order)

pub absent-first : (f : ℕ) (rs : List Rows) (ss : List ℕ) (c : Place) → IsIndexed zero f rs ss → IfSome (slice_get (map first_number rs) zero) (λ v. cell_number c < v) → Contains (all_cells rs) c → ⊥
absent-first f [] ss c h here (k, within, is) = omega arith
absent-first f (x ∷ rs) [] c h here in_list = absurd h
absent-first f (x ∷ rs) (y ∷ ss) c h here in_list = none-behind zero (first_number x) (x ∷ rs) (y ∷ ss) c (h.0, h.1, omega arith, h.3) here in_list

-- a cell that the last run that begins at it or in front of it hasn't
pub absent-at : (p f i : ℕ) (rs : List Rows) (ss : List ℕ) (r : Rows) (c : Place) → IsIndexed p f rs ss → slice_get rs i ≡ Some r → first_number r ≤ cell_number c → IfSome (slice_get (map first_number rs) (suc i)) (λ v. cell_number c < v) → (LiesIn c r → ⊥) → Contains (all_cells rs) c → ⊥
absent-at p f i [] ss r c h e begins next out in_list = absurd cc
absent-at p f i (x ∷ rs) [] r c h e begins next out in_list = absurd h
absent-at p f zero (x ∷ rs) (y ∷ ss) r c h e begins next out in_list = by_part (Contains-append_cases (cells_of x) (all_cells rs) c in_list)
  where
    behind : (q g : ℕ) (ws : List Rows) (vs : List ℕ) → IsIndexed q g ws vs → IfSome (slice_get (map first_number ws) zero) (λ v. cell_number c < v) → Contains (all_cells ws) c → ⊥
    behind q g [] vs i w (k, within, is) = omega arith
    behind q g (w ∷ ws) [] i n m = absurd i
    behind q g (w ∷ ws) (v ∷ vs) i n m = none-behind q (first_number w) (w ∷ ws) (v ∷ vs) c (i.0, i.1, omega arith, i.3) n m

    by_part : Contains (cells_of x) c ⊎ Contains (all_cells rs) c → ⊥
    by_part (inl here) = let run : x ≡ r = cc in out (subst (LiesIn c) run (lies_in c x here))
    by_part (inr rest) = behind (p + (x.last + 1 - x.first)) (number_of x.sheet x.col x.last + 1) rs ss h.3 next rest
absent-at p f (suc i) (x ∷ rs) (y ∷ ss) r c h e begins next out in_list =
    let reach = reaches (p + (x.last + 1 - x.first)) (number_of x.sheet x.col x.last + 1) i rs ss r h.3 e in
    elim (Contains-append_cases (cells_of x) (all_cells rs) c in_list) [
      | inl here ↦ (let lies : LiesIn c x = lies_in c x here in omega (arith, reach, lies.sheet, lies.col, lies.to))
      | inr rest ↦ absent-at (p + (x.last + 1 - x.first)) (number_of x.sheet x.col x.last + 1) i rs ss r c h.3 e begins next out rest
    ]

pub length-places : (p f : ℕ) (rs : List Rows) (ss : List ℕ) → IsIndexed p f rs ss → length rs ≡ length ss
length-places p f [] [] h = refl
length-places p f [] (y ∷ ss) h = absurd h
length-places p f (x ∷ rs) [] h = absurd h
length-places p f (x ∷ rs) (y ∷ ss) h = ap suc (length-places (p + (x.last + 1 - x.first)) (number_of x.sheet x.col x.last + 1) rs ss h.3)

-- no place is in front of the first
pub first-place : (rs : List Rows) (ss : List ℕ) (place : ℕ) → IsIndexed zero zero rs ss → IfSome (slice_get ss zero) (λ v. place < v) → slice_get (all_cells rs) place ≡ None
first-place [] ss place h here = refl
first-place (x ∷ rs) [] place h here = absurd h
first-place (x ∷ rs) (y ∷ ss) place h here = absurd (omega (arith, h.0, here))

-- the cell at a place, in its run
pub record Found (rs : List Rows) (place : ℕ) (r : Rows) (s : ℕ) : Type 0 where
  pub rows : IsRows r
  pub from : s ≤ place
  pub less : place - s < r.last + 1 - r.first
  pub cell : slice_get (all_cells rs) place ≡ Some (record { sheet = r.sheet; col = r.col; row = r.first + (place - s) })

pub cell-found : (rs : List Rows) (ss : List ℕ) (place behind : ℕ) (r : Rows) (s : ℕ) → IsIndexed zero zero rs ss → IsFirstAbove place ss behind → behind ≢ zero → behind ≤ length ss → r ≡ get_or rs (behind - 1) r → s ≡ get_or ss (behind - 1) s → place < length (all_cells rs) → Found rs place r s
cell-found rs ss place zero r s h f ne within is at less = absurd (ne refl)
cell-found rs ss place (suc i) r s h f ne within is at less =
    let e : suc i - 1 ≡ i = omega arith in
    let run : slice_get rs i ≡ Some r = slice_get_read rs (length rs) i r refl (omega (arith, length-places zero zero rs ss h)) (is ∙ ap (λ j. get_or rs j r) e) in
    let start : slice_get ss i ≡ Some s = slice_get_read ss (length ss) i s refl (omega arith) (at ∙ ap (λ j. get_or ss j s) e) in
    let found : RunAt zero rs i r s = run-at zero zero i rs ss r s h run start in
    let from : s ≤ place = subst (λ o. IfSome o (λ v. v ≤ place)) start (f.before i (omega arith)) in
    let reach = run-reaches zero zero i place rs ss r s h run start f.here (omega arith) in
    let count : place - s < r.last + 1 - r.first = omega arith in
    let q : s - zero + (place - s) ≡ place = omega arith in
    record { rows = found.rows; from = from; less = count; cell = ap (slice_get (all_cells rs)) (sym q) ∙ found.cells (place - s) count }

-- the last run that begins at a cell or in front of it
pub record Near (rs : List Rows) (c : Place) (r : Rows) (s : ℕ) : Type 0 where
  pub rows : IsRows r
  pub begins : first_number r ≤ cell_number c
  pub to : s + (r.last + 1 - r.first) ≤ length (all_cells rs)
  pub cells : (k : ℕ) → k < r.last + 1 - r.first → slice_get (all_cells rs) (s + k) ≡ Some (record { sheet = r.sheet; col = r.col; row = r.first + k })
  pub absent : (LiesIn c r → ⊥) → Contains (all_cells rs) c → ⊥

pub run-near : (rs : List Rows) (ss : List ℕ) (c : Place) (behind : ℕ) (r : Rows) (s : ℕ) → IsIndexed zero zero rs ss → IsFirstAbove (cell_number c) (map first_number rs) behind → behind ≢ zero → behind ≤ length rs → r ≡ get_or rs (behind - 1) r → s ≡ get_or ss (behind - 1) s → Near rs c r s
run-near rs ss c zero r s h f ne within is at = absurd (ne refl)
run-near rs ss c (suc i) r s h f ne within is at =
    let e : suc i - 1 ≡ i = omega arith in
    let run : slice_get rs i ≡ Some r = slice_get_read rs (length rs) i r refl (omega arith) (is ∙ ap (λ j. get_or rs j r) e) in
    let start : slice_get ss i ≡ Some s = slice_get_read ss (length ss) i s refl (omega (arith, length-places zero zero rs ss h)) (at ∙ ap (λ j. get_or ss j s) e) in
    let found : RunAt zero rs i r s = run-at zero zero i rs ss r s h run start in
    let begins : first_number r ≤ cell_number c = subst (λ o. IfSome o (λ v. v ≤ cell_number c)) (slice_get-map first_number rs i ∙ ap (option_map first_number) run) (f.before i (omega arith)) in
    let q : s - zero ≡ s = omega arith in
    record {
      rows = found.rows;
      begins = begins;
      to = omega (arith, found.to);
      cells = λ k less. ap (λ v. slice_get (all_cells rs) (v + k)) (sym q) ∙ found.cells k less;
      absent = λ out in_list. absent-at zero zero i rs ss r c h run begins f.here out in_list;
    }

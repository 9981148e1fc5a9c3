-- One run more of those whose cells stand in a list.
use Rattle.std.proofs.Common.{◌≡◌, ℕ, ◌+◌, ◌-◌, ◌<◌, ◌≤◌, ◌⊎◌, ◌||◌, true, max, List, ◌++◌, length, get_or, take, sym, ap, subst, ◌∙◌, ⊎_elim, length-append, arith}
use Rattle.std.specs.Prelude.{◌↔◌}
use Rattle.std.specs.List.{AllPairs, Contains}
use Rattle.std.specs.List.Sorted.{IsNonDecreasingBy}
use Rattle.std.proofs.lemmas.Bool.{cases_lt, cases_order, or_cases}
use Rattle.std.proofs.lemmas.Bool.Decides.{nat_tests}
use Rattle.std.proofs.lemmas.List.{get_or_append_left, get_or-append-add, get_or_default}
use Rattle.std.proofs.lemmas.List.Elements.{Contains-append_cases, Contains-append_left, Contains-append_right, Contains-get_or}
use Rattle.std.proofs.lemmas.List.Folds.{list_any_more}
use Rattle.calc_addr.specs.Places.{IsBefore, IsPlace, IsRows, Place, Rows}
use Rattle.cell_runs.specs.CellLists.{LieBefore, cells_of, first_cell, first_number, number_of}
use Rattle.cell_runs.proofs.Numbers.{cell_at, length-cells}
use Rattle.run_unions.specs.Unions.{is_in}
use Rattle.dirty_spread.specs.Marking.{is_in_any}
use Rattle.dirty_spread.specs.Sweeping.{IsSwept, cell_number}
use Rattle.dirty_spread.proofs.Cells.{cells_in, in_cells}
use Rattle.dirty_spread.proofs.Fronts.{or_left, or_right}
use Rattle.dirty_spread.proofs.Stepping.{Lies, lies}

sheet_before : (s t c d r q : ℕ) → s < t → IsBefore (record { sheet = s; col = c; row = r }) (record { sheet = t; col = d; row = q })
sheet_before s t c d r q h = grind (arith, nat_tests)

col_before : (s c d r q : ℕ) → c < d → IsBefore (record { sheet = s; col = c; row = r }) (record { sheet = s; col = d; row = q })
col_before s c d r q h = grind (arith, nat_tests)

row_before : (s c r q : ℕ) → r < q → IsBefore (record { sheet = s; col = c; row = r }) (record { sheet = s; col = c; row = q })
row_before s c r q h = grind (arith, nat_tests)

-- numbers rise in the order of cells
pub number_before : (p q : Place) → IsPlace p → IsPlace q → cell_number p < cell_number q → IsBefore p q
number_before p q hp hq less =
    ⊎_elim (λ (s : p.sheet ≡ q.sheet).
    ⊎_elim (λ (c : p.col ≡ q.col).
    subst (λ z. IsBefore p (record { sheet = z; col = q.col; row = q.row })) s
    (subst (λ z. IsBefore p (record { sheet = p.sheet; col = z; row = q.row })) c (row_before p.sheet p.col p.row q.row (omega arith))))
    (λ (c : (p.col < q.col) ⊎ (q.col < p.col)).
    ⊎_elim (λ (l : p.col < q.col). subst (λ z. IsBefore p (record { sheet = z; col = q.col; row = q.row })) s (col_before p.sheet p.col q.col p.row q.row l))
    (λ (l : q.col < p.col). absurd (omega (arith, hp.row_from, hq.row_to))) c)
    (cases_order p.col q.col))
    (λ (s : (p.sheet < q.sheet) ⊎ (q.sheet < p.sheet)).
    ⊎_elim (λ (l : p.sheet < q.sheet). sheet_before p.sheet q.sheet p.col q.col p.row q.row l)
    (λ (l : q.sheet < p.sheet). absurd (omega (arith, hp.row_from, hp.col_from, hq.row_to, hq.col_to))) s)
    (cases_order p.sheet q.sheet)

is_in_lies : (run : Rows) (q : Place) → Lies run q → is_in q run ≡ true
is_in_lies run q l = grind (arith, nat_tests, l.sheet, l.col, l.from, l.to)

last_number : Rows → ℕ
last_number run = number_of run.sheet run.col run.last

-- the cells between a run's first one and its last are the run's
between : (run : Rows) (q : Place) → IsRows run → IsPlace q → first_number run ≤ cell_number q → cell_number q ≤ number_of run.sheet run.col run.last → is_in q run ≡ true
between run q rows place low high =
    let sheet : q.sheet ≡ run.sheet = omega (arith, rows.to, rows.from, rows.in_order, rows.col_to, rows.col_from, place.row_to, place.row_from, place.col_to, place.col_from) in
    let col : q.col ≡ run.col = omega (arith, rows.to, rows.from, rows.in_order, rows.col_to, rows.col_from, place.row_to, place.row_from, place.col_to, place.col_from) in
    is_in_lies run q (record { sheet = sheet; col = col; from = omega arith; to = omega arith })

pub all_pairs_append : {X : Type 0} (R : X → X → Type 0) (xs ys : List X) → AllPairs R xs → AllPairs R ys → ((x y : X) → Contains xs x → Contains ys y → R x y) → AllPairs R (xs ++ ys)
all_pairs_append R xs ys one two across i j d less within =
    let n : ℕ = length xs in
    let all : length (xs ++ ys) ≡ length xs + length ys = length-append xs ys in
    ⊎_elim (λ (jn : j < n).
    subst (λ x. R x (get_or (xs ++ ys) j d)) (sym (get_or_append_left xs ys d i (omega arith)))
    (subst (λ y. R (get_or xs i d) y) (sym (get_or_append_left xs ys d j jn)) (one i j d less jn)))
    (λ (nj : n ≤ j).
    let jj : ℕ = j - n in
    let j_is : length xs + jj ≡ j = omega arith in
    let at_j : get_or (xs ++ ys) j d ≡ get_or ys jj d = ap (λ k. get_or (xs ++ ys) k d) (sym j_is) ∙ get_or-append-add xs ys jj d in
    subst (λ y. R (get_or (xs ++ ys) i d) y) (sym at_j)
    (⊎_elim (λ (l : i < n).
    subst (λ x. R x (get_or ys jj d)) (sym (get_or_append_left xs ys d i l))
    (across (get_or xs i d) (get_or ys jj d) (Contains-get_or xs i d l) (Contains-get_or ys jj d (omega arith))))
    (λ (l : n ≤ i).
    let ii : ℕ = i - n in
    let i_is : length xs + ii ≡ i = omega arith in
    let at_i : get_or (xs ++ ys) i d ≡ get_or ys ii d = ap (λ k. get_or (xs ++ ys) k d) (sym i_is) ∙ get_or-append-add xs ys ii d in
    subst (λ x. R x (get_or ys jj d)) (sym at_i) (two ii jj d (omega arith) (omega arith)))
    (cases_lt i n)))
    (cases_lt j n)

pub run_in_order : (run : Rows) → AllPairs IsBefore (cells_of run)
run_in_order run i j d less within =
    let below : j < run.last + 1 - run.first = omega (arith, length-cells run) in
    subst (λ x. IsBefore x (get_or (cells_of run) j d)) (sym (cell_at run i d (omega arith)))
    (subst (λ y. IsBefore (record { sheet = run.sheet; col = run.col; row = run.first + i }) y) (sym (cell_at run j d below)) (row_before run.sheet run.col (run.first + i) (run.first + j) (omega arith)))

pub place_of_lies : (run : Rows) (q : Place) → IsRows run → Lies run q → IsPlace q
place_of_lies run q rows l = record {
  sheet_in = omega (arith, rows.sheet_in, l.sheet);
  col_from = omega (arith, rows.col_from, l.col);
  col_to = omega (arith, rows.col_to, l.col);
  row_from = omega (arith, rows.from, l.from);
  row_to = omega (arith, rows.to, l.to);
}

module _ (runs : List Rows) (sorted : IsNonDecreasingBy first_number runs) (k next : ℕ) (cells : List Place) (swept : IsSwept runs k next cells)
    (run : Rows) (within : k < length runs) (at : run ≡ get_or runs k run) (rows : IsRows run) where
  more : (q : Place) → is_in_any q (take (k + 1) runs) ≡ (is_in_any q (take k runs) || is_in q run)
  more q = list_any_more (is_in q) runs k run within ∙ ap (λ (r : Rows). is_in_any q (take k runs) || is_in q r) (sym at)

  firsts : (q : Place) → first_number run ≤ cell_number q → (j : ℕ) (d : Rows) → j < k → first_number (get_or runs j d) ≤ cell_number q
  firsts q low j d less =
      let here : first_number (get_or runs k d) ≡ first_number run = ap first_number (get_or_default runs k d run within ∙ sym at) in
      omega (arith, sorted j k d (omega arith) within)

  first_of_last : (q : Place) → ((j : ℕ) (d : Rows) → j < k + 1 → first_number (get_or runs j d) ≤ cell_number q) → first_number run ≤ cell_number q
  first_of_last q low = subst (λ (r : Rows). first_number r ≤ cell_number q) (sym at) (low k run (omega arith))

  -- all its cells are there already
  pub swept_over : number_of run.sheet run.col run.last < next → IsSwept runs (k + 1) next cells
  swept_over over = record {
    in_order = swept.in_order;
    valid = swept.valid;
    below = swept.below;
    exact = λ q. (
      λ h. more q ∙ or_left (is_in_any q (take k runs)) (is_in q run) ((swept.exact q).0 h),
      λ h. ⊎_elim (λ (e : is_in_any q (take k runs) ≡ true). (swept.exact q).1 e)
          (λ (e : is_in q run ≡ true). let l : Lies run q = lies run q e in
          swept.held q (place_of_lies run q rows l) (firsts q (omega (arith, l.sheet, l.col, l.from))) (omega (arith, l.sheet, l.col, l.to)))
          (or_cases (is_in_any q (take k runs)) (is_in q run) (sym (more q) ∙ h)),
    );
    held = λ q place low less. swept.held q place (λ j d l. low j d (omega arith)) less;
  }

  module _ (first : ℕ) (first_is : first ≡ max (first_number run) next) (reaches : first ≤ number_of run.sheet run.col run.last) (part : Rows) (part_is : part ≡ record run { first = run.first + (first - first_number run) }) where
    from : ℕ
    from = run.first + (first - first_number run)

    part_sheet : part.sheet ≡ run.sheet
    part_sheet = ap (λ (r : Rows). r.sheet) part_is

    part_col : part.col ≡ run.col
    part_col = ap (λ (r : Rows). r.col) part_is

    part_first : part.first ≡ run.first + (first - first_number run)
    part_first = ap (λ (r : Rows). r.first) part_is

    part_last : part.last ≡ run.last
    part_last = ap (λ (r : Rows). r.last) part_is

    part_rows : IsRows part
    part_rows = record {
      sheet_in = omega (arith, rows.sheet_in, part_sheet);
      col_from = omega (arith, rows.col_from, part_col);
      col_to = omega (arith, rows.col_to, part_col);
      from = omega (arith, rows.from, part_first);
      in_order = omega (arith, part_first, part_last, rows.in_order);
      to = omega (arith, rows.to, part_last);
    }

    part_number : first_number part ≡ first
    part_number = omega (arith, part_sheet, part_col, part_first)

    in_run : (q : Place) → is_in q part ≡ true → is_in q run ≡ true
    in_run q h =
        let l : Lies part q = lies part q h in
        is_in_lies run q (record { sheet = l.sheet ∙ part_sheet; col = l.col ∙ part_col; from = omega (arith, l.from, part_first); to = omega (arith, l.to, part_last) })

    in_part : (q : Place) → is_in q run ≡ true → first ≤ cell_number q → is_in q part ≡ true
    in_part q h low =
        let l : Lies run q = lies run q h in
        is_in_lies part q (record { sheet = l.sheet ∙ sym part_sheet; col = l.col ∙ sym part_col; from = omega (arith, l.sheet, l.col, l.from, part_first); to = omega (arith, l.to, part_last) })

    part_place : (q : Place) → Contains (cells_of part) q → IsPlace q
    part_place q h = place_of_lies part q part_rows (lies part q (cells_in part q h))

    part_from : (q : Place) → Contains (cells_of part) q → first ≤ cell_number q
    part_from q h = let l : Lies part q = lies part q (cells_in part q h) in omega (arith, l.sheet, l.col, l.from, part_number)

    part_to : (q : Place) → Contains (cells_of part) q → cell_number q ≤ number_of run.sheet run.col run.last
    part_to q h = let l : Lies part q = lies part q (cells_in part q h) in omega (arith, l.sheet, l.col, l.to, part_sheet, part_col, part_last)

    first_place : IsPlace (first_cell part)
    first_place = record {
      sheet_in = part_rows.sheet_in;
      col_from = part_rows.col_from;
      col_to = part_rows.col_to;
      row_from = part_rows.from;
      row_to = omega (arith, part_rows.in_order, part_rows.to);
    }

    pub lie_before : LieBefore cells part
    lie_before i d less =
        let q : Place = get_or cells i d in
        let held : Contains cells q = Contains-get_or cells i d less in
        number_before q (first_cell part) (swept.valid q held) first_place (omega (arith, swept.below q held, part_number))

    pushed_all : (q : Place) → Contains (cells ++ cells_of part) q ↔ (is_in_any q (take (k + 1) runs) ≡ true)
    pushed_all q = (
      λ h. more q ∙ ⊎_elim (λ (c : Contains cells q). or_left (is_in_any q (take k runs)) (is_in q run) ((swept.exact q).0 c))
          (λ (c : Contains (cells_of part) q). or_right (is_in_any q (take k runs)) (is_in q run) (in_run q (cells_in part q c)))
          (Contains-append_cases cells (cells_of part) q h),
      λ h. ⊎_elim (λ (e : is_in_any q (take k runs) ≡ true). Contains-append_left cells (cells_of part) q ((swept.exact q).1 e))
          (λ (e : is_in q run ≡ true).
          let l : Lies run q = lies run q e in
          ⊎_elim (λ (low : cell_number q < first).
          Contains-append_left cells (cells_of part) q (swept.held q (place_of_lies run q rows l) (firsts q (omega (arith, l.sheet, l.col, l.from))) (omega (arith, l.sheet, l.col, l.from))))
          (λ (high : first ≤ cell_number q). Contains-append_right cells (cells_of part) q (in_cells part q (in_part q e high)))
          (cases_lt (cell_number q) first))
          (or_cases (is_in_any q (take k runs)) (is_in q run) (sym (more q) ∙ h)),
    )

    pub swept_more : IsSwept runs (k + 1) (number_of run.sheet run.col run.last + 1) (cells ++ cells_of part)
    swept_more = record {
      in_order = all_pairs_append IsBefore cells (cells_of part) swept.in_order (run_in_order part)
          (λ x y hx hy. number_before x y (swept.valid x hx) (part_place y hy) (omega (arith, swept.below x hx, part_from y hy)));
      valid = λ q h. ⊎_elim (λ (c : Contains cells q). swept.valid q c) (λ (c : Contains (cells_of part) q). part_place q c) (Contains-append_cases cells (cells_of part) q h);
      below = λ q h. ⊎_elim (λ (c : Contains cells q). let b = swept.below q c in omega arith) (λ (c : Contains (cells_of part) q). let b = part_to q c in omega arith) (Contains-append_cases cells (cells_of part) q h);
      exact = pushed_all;
      held = λ q place low less.
          (pushed_all q).1 (more q ∙ or_right (is_in_any q (take k runs)) (is_in q run) (between run q rows place (first_of_last q low) (omega arith)));
    }

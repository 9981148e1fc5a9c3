-- What is left of an area behind some rows of a column.
use Rattle.std.proofs.Common.{◌≡◌, true, ℕ, zero, suc, ◌+◌, ◌-◌, ◌≤◌, ◌<◌, List, [], ◌++◌, drop, length, map, ap, sym, subst, ◌∙◌, arith, Some, None}
use Rattle.std.specs.List.{flat_map, range_with_len}
use Rattle.std.proofs.lemmas.List.{drop-append-le, drop-map, length-map}
use Rattle.std.proofs.lemmas.List.FromFn.{length-range_with_len}
use Rattle.std.proofs.Math.Seq.{drop-append_seam}
use Rattle.calc_addr.specs.Places.{Place, Rectangle, column_places, covers, from_to, places_from}
use Rattle.calc_addr.proofs.Walking.Places.{IsCovered, IsCovered-from, covers-true}
use Rattle.fn_args.specs.Pieces.{IsBehind}

drop-range : (n a k : ℕ) → n ≤ k → drop n (range_with_len a k) ≡ range_with_len (a + n) (k - n)
drop-range zero a k h =
    let e : a ≡ a + 0 = omega arith in
    let f : k ≡ k - 0 = omega arith in
    ap (λ x. range_with_len x k) e ∙ ap (range_with_len (a + 0)) f
drop-range (suc n) a zero h = absurd (omega (arith, h))
drop-range (suc n) a (suc k) h =
    let e : a + 1 + n ≡ a + suc n = omega arith in
    let f : k - n ≡ suc k - suc n = omega arith in
    drop-range n (a + 1) k (omega (arith, h)) ∙ ap (λ x. range_with_len x (k - n)) e ∙ ap (range_with_len (a + suc n)) f

at_row : ℕ → ℕ → ℕ → Place
at_row sheet col row = record { sheet = sheet; col = col; row = row }

pub length-column : (sheet col first last : ℕ) → length (column_places sheet col first last) ≡ last + 1 - first
length-column sheet col first last = length-map (from_to first last) (λ row. record { sheet = sheet; col = col; row = row }) ∙ length-range_with_len first (last + 1 - first)

column-drop : (sheet col first last n : ℕ) → n ≤ last + 1 - first → drop n (column_places sheet col first last) ≡ column_places sheet col (first + n) last
column-drop sheet col first last n h =
    let e : last + 1 - first - n ≡ last + 1 - (first + n) = omega arith in
    drop-map (λ row. record { sheet = sheet; col = col; row = row }) n (from_to first last)
    ∙ ap (map (λ row. record { sheet = sheet; col = col; row = row })) (drop-range n first (last + 1 - first) h ∙ ap (range_with_len (first + n)) e)

module _ (a : Rectangle) (p : Place) where
  abbrev pub column : List Place
  column = column_places a.sheet p.col p.row a.last_row

  abbrev pub later : List Place
  later = flat_map (λ col. column_places a.sheet col a.first_row a.last_row) (from_to (p.col + 1) a.last_col)

  -- further down in the column
  pub further : (n : ℕ) → n ≤ a.last_row + 1 - p.row → drop n (places_from a (Some p)) ≡ column_places a.sheet p.col (p.row + n) a.last_row ++ later
  further n h =
      drop-append-le n column later (subst (λ k. n ≤ k) (sym (length-column a.sheet p.col p.row a.last_row)) h)
      ∙ ap (λ xs. xs ++ later) (column-drop a.sheet p.col p.row a.last_row n h)

  -- behind the column
  pub past : (n : ℕ) → n ≡ a.last_row + 1 - p.row → drop n (places_from a (Some p)) ≡ later
  past n e =
      ap (λ k. drop k (column ++ later)) (e ∙ sym (length-column a.sheet p.col p.row a.last_row)) ∙ drop-append_seam column later

  pub next_column : p.col < a.last_col → later ≡ places_from a (Some (record p { col = p.col + 1; row = a.first_row }))
  next_column h =
      let e : a.last_col + 1 - (p.col + 1) ≡ suc (a.last_col + 1 - (p.col + 1 + 1)) = omega arith in
      ap (λ k. flat_map (λ col. column_places a.sheet col a.first_row a.last_row) (range_with_len (p.col + 1) k)) e

  pub no_column : a.last_col ≤ p.col → later ≡ []
  no_column h =
      let e : a.last_col + 1 - (p.col + 1) ≡ 0 = omega arith in
      ap (λ k. flat_map (λ col. column_places a.sheet col a.first_row a.last_row) (range_with_len (p.col + 1) k)) e

-- the same facts of an area and a cell that are equal to these
pub along : (P : Rectangle → Place → Type 0) {a b : Rectangle} {p q : Place} → a ≡ b → p ≡ q → P a p → P b q
along P {a} {b} {p} {q} e f h = subst (λ x. P x q) e (subst (P a) f h)

module _ (a : Rectangle) (p : Place) (n : ℕ) (covered : covers a p ≡ true) where
  in_area : IsCovered a p
  in_area = IsCovered-from a p covered

  pub behind_further : n ≤ a.last_row - p.row → IsBehind a p n (Some (record p { row = p.row + n }))
  behind_further h = record {
    left = sym (further a p n (omega (arith, h, in_area.rows_to)));
    inside = covers-true a (record p { row = p.row + n }) (record {
      sheet = in_area.sheet;
      cols_from = in_area.cols_from;
      cols_to = in_area.cols_to;
      rows_from = omega (arith, in_area.rows_from);
      rows_to = omega (arith, h, in_area.rows_to);
    });
  }

  pub behind_column : n ≡ a.last_row + 1 - p.row → p.col < a.last_col → a.first_row ≤ a.last_row → IsBehind a p n (Some (record p { col = p.col + 1; row = a.first_row }))
  behind_column h more ordered = record {
    left = sym (past a p n h ∙ next_column a p more);
    inside = covers-true a (record p { col = p.col + 1; row = a.first_row }) (record {
      sheet = in_area.sheet;
      cols_from = omega (arith, in_area.cols_from);
      cols_to = omega (arith, more);
      rows_from = omega arith;
      rows_to = ordered;
    });
  }

  pub behind_all : n ≡ a.last_row + 1 - p.row → a.last_col ≤ p.col → IsBehind a p n None
  behind_all h last = record { left = sym (past a p n h ∙ no_column a p last); inside = tt }

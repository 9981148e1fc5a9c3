-- A reference of a relative form stays the same at each row between two rows at which it does.
use Rattle.std.proofs.Common.{◌≡◌, ℕ, ◌+◌, ◌-◌, ◌≤◌, ◌==◌, ◌&&◌, nat_le, not, Bool, true, false, cond, Option, Some, None, ◌⊎◌, inl, inr, refl, sym, ap, subst, ◌∙◌, arith}
use Rattle.std.specs.Prelude.{◌/◌, option_map}
use Rattle.std.proofs.lemmas.Bool.Decides.{Decides-eqb, nat_tests}
use Rattle.calc_addr.specs.declared.cell.TheConstants.{LAST_COL, LAST_ROW}
use Rattle.calc_addr.specs.Places.{IsRectangle, Place, Rectangle}
use Rattle.calc_addr.specs.References.{Reference, here}
use Rattle.calc_addr.specs.Shifts.{area_after_deletion, area_after_insertion, has_all_rows, is_deleted, on_area, place_after_deletion, place_after_insertion, reference_after_deletion, reference_after_insertion, row_after_deletion, row_after_insertion, with_rows}
use Rattle.calc_model.specs.declared.change.Change.{Change}
use Rattle.calc_model.specs.declared.change.Change.TheVariants.{Stays, Moves, Inserted, Deleted}
use Rattle.calc_model.specs.declared.fault.Fault.TheVariants.{BadRef}
use Rattle.calc_model.specs.declared.tree.Tree.TheVariants as t
use Rattle.calc_model.specs.Changes.{changed}
use Rattle.calc_model.specs.TreeShifts.{on_sheet, or_deleted}
use Rattle.calc_model.proofs.Areas.{both_true}
use Rattle.calc_model.proofs.EntriesKept.{both_so}
use Rattle.calc_model.proofs.Replaced.{replaced-Bad, replaced-Ref}
use Rattle.formula_code.specs.Relative.{absolute_reference, from_distance, has_cols, has_rows, relative, relative_reference, to_distance}
use Rattle.kept_codes.specs.RowChanges.{IsRowChange, StaysIn, goes, place_of, sheet_of}
use Rattle.kept_codes.specs.Columns.{cell_in}
use Rattle.kept_codes.proofs.RowsBetween.{Along, AllGo, AreBetween, Lie, both_go, deleted_between, inserted_between, deleted_rows, goes_along, inserted_rows, rows_test}

-- the relative form of a reference with other rows, at another cell
abbrev pub rows_of : Place → Place → Reference → Option (ℕ × ℕ) → Option Reference
rows_of home to r o = option_map (relative_reference to) (option_map (on_area (absolute_reference home r)) (option_map (λ (p : ℕ × ℕ). with_rows (absolute_reference home r).area p.0 p.1) o))

-- an end at its distance from another cell goes along, and back
end_goes : (moves : Bool) (home to d after : ℕ) → 1 ≤ from_distance moves LAST_ROW home d → to ≤ LAST_ROW → to_distance moves LAST_ROW to after ≡ d → goes_along moves home to (from_distance moves LAST_ROW home d) after ≡ true
end_goes true home to d after from low is = (Decides-eqb _ _).1 (omega (arith, from, low, is))
end_goes false home to d after from low is = (Decides-eqb _ _).1 is

end_back : (moves : Bool) (home to d after : ℕ) → 1 ≤ from_distance moves LAST_ROW home d → to ≤ LAST_ROW → goes_along moves home to (from_distance moves LAST_ROW home d) after ≡ true → to_distance moves LAST_ROW to after ≡ d
end_back true home to d after from low along = let is : after + home ≡ home + d - LAST_ROW + to = (Decides-eqb _ _).0 along in omega (arith, from, low, is)
end_back false home to d after from low along = (Decides-eqb _ _).0 along

col_back : (moves : Bool) (home d : ℕ) → 1 ≤ from_distance moves LAST_COL home d → to_distance moves LAST_COL home (from_distance moves LAST_COL home d) ≡ d
col_back true home d from = omega (arith, from)
col_back false home d from = refl

module _ (home to : Place) (r : Reference) (lies : IsRectangle (absolute_reference home r).area) (low : to.row ≤ LAST_ROW) where
  abbrev pub moves_first : Bool
  moves_first = has_rows r.span && not r.marks.first_row

  abbrev pub moves_last : Bool
  moves_last = has_rows r.span && not r.marks.last_row

  abbrev there : Reference
  there = absolute_reference home r

  -- the reference with other rows is the form's where both ends go along
  rows_go : (first last : ℕ) → relative_reference to (on_area there (with_rows there.area first last)) ≡ r → both_go moves_first moves_last home.row to.row there.area.first_row there.area.last_row first last ≡ true
  rows_go first last is =
      both_so _ _ (end_goes moves_first home.row to.row r.area.first_row first lies.rows_from low (ap (λ (r : Reference). r.area.first_row) is))
      (end_goes moves_last home.row to.row r.area.last_row last (omega (arith, lies.rows_from, lies.rows_in_order)) low (ap (λ (r : Reference). r.area.last_row) is))

  rows_back : to.col ≡ home.col → (first last : ℕ) → both_go moves_first moves_last home.row to.row there.area.first_row there.area.last_row first last ≡ true → relative_reference to (on_area there (with_rows there.area first last)) ≡ r
  rows_back same first last along =
      let both = both_true (goes_along moves_first home.row to.row there.area.first_row first) (goes_along moves_last home.row to.row there.area.last_row last) along in
      let first_row = end_back moves_first home.row to.row r.area.first_row first lies.rows_from low both.0 in
      let last_row = end_back moves_last home.row to.row r.area.last_row last (omega (arith, lies.rows_from, lies.rows_in_order)) low both.1 in
      let first_col = ap (λ n. to_distance (has_cols r.span && not r.marks.first_col) LAST_COL n there.area.first_col) same ∙ col_back (has_cols r.span && not r.marks.first_col) home.col r.area.first_col lies.cols_from in
      let last_col = ap (λ n. to_distance (has_cols r.span && not r.marks.last_col) LAST_COL n there.area.last_col) same ∙ col_back (has_cols r.span && not r.marks.last_col) home.col r.area.last_col (omega (arith, lies.cols_from, lies.cols_in_order)) in
      simp (first_col, last_col, first_row, last_row)

  -- what becomes of its rows is that of the form where both ends go along
  pub rows_kept : (o : Option (ℕ × ℕ)) → rows_of home to r o ≡ Some r → rows_test moves_first moves_last home.row to.row there.area.first_row there.area.last_row o ≡ true
  rows_kept None is = cc
  rows_kept (Some p) is = rows_go p.0 p.1 (some_is _ _ is)
    where
      some_is : (x y : Reference) → Some x ≡ Some y → x ≡ y
      some_is x y h = cc

  pub kept_rows : to.col ≡ home.col → (o : Option (ℕ × ℕ)) → rows_test moves_first moves_last home.row to.row there.area.first_row there.area.last_row o ≡ true → rows_of home to r o ≡ Some r
  kept_rows same None along = cc
  kept_rows same (Some p) along = ap Some (rows_back same p.0 p.1 along)

-- areas by what becomes of their rows
map_choice : (f : ℕ × ℕ → Rectangle) (b : Bool) (o o' : Option Rectangle) (q q' : Option (ℕ × ℕ)) → o ≡ option_map f q → o' ≡ option_map f q' → cond b o o' ≡ option_map f (cond b q q')
map_choice f true o o' q q' h k = h
map_choice f false o o' q q' h k = k

insertion_rows : (p c : ℕ) (a : Rectangle) → area_after_insertion p c a ≡ option_map (λ (q : ℕ × ℕ). with_rows a q.0 q.1) (inserted_rows p c a.first_row a.last_row)
insertion_rows p c a = map_choice (λ q. with_rows a q.0 q.1) (has_all_rows a) _ _ _ _ refl (map_choice (λ q. with_rows a q.0 q.1) (nat_le (row_after_insertion p c a.first_row) LAST_ROW) _ _ _ _ refl refl)

deletion_rows : (p c : ℕ) (a : Rectangle) → area_after_deletion p c a ≡ option_map (λ (q : ℕ × ℕ). with_rows a q.0 q.1) (deleted_rows p c a.first_row a.last_row)
deletion_rows p c a = map_choice (λ q. with_rows a q.0 q.1) (has_all_rows a) _ _ _ _ refl (map_choice (λ q. with_rows a q.0 q.1) (is_deleted p c a.first_row && is_deleted p c a.last_row) _ _ _ _ refl refl)

-- what becomes of the rows of an area, which lies in the sheet of the change or doesn't
abbrev pub after_rows : Change → Bool → ℕ → ℕ → Option (ℕ × ℕ)
after_rows (Inserted sheet p c) on a b = cond on (inserted_rows p c a b) (Some (a, b))
after_rows (Deleted sheet p c) on a b = cond on (deleted_rows p c a b) (Some (a, b))
after_rows _ on a b = Some (a, b)

-- the reference's area lies there
abbrev pub is_on : Change → ℕ → Reference → Bool
is_on change sheet r = cond r.marks.sheet r.area.sheet sheet == sheet_of change

-- what becomes of a form's reference when the formula changes at home and goes to another cell
abbrev pub reference_after : Change → Place → Place → Reference → Option Reference
reference_after change home to r = rows_of home to r (after_rows change (is_on change home.sheet r) (absolute_reference home r).area.first_row (absolute_reference home r).area.last_row)

relative_or : (to : Place) (o : Option Reference) → relative to (or_deleted o) ≡ or_deleted (option_map (relative_reference to) o)
relative_or to None = replaced-Bad (λ r. t.Ref (relative_reference to r)) BadRef
relative_or to (Some r) = replaced-Ref (λ r. t.Ref (relative_reference to r)) r

module _ (home to : Place) (r : Reference) (sheet : ℕ) where
  abbrev at_home : Reference
  at_home = absolute_reference home r

  on_home : ((here at_home home).sheet == sheet) ≡ (cond r.marks.sheet r.area.sheet home.sheet == sheet)
  on_home = ap (λ n. n == sheet) (elim r.marks.sheet as (λ b. (cond b at_home.area (record at_home.area { sheet = home.sheet })).sheet ≡ cond b r.area.sheet home.sheet) [ true ↦ refl | false ↦ refl ])

  by_rows : (after : Reference → Option Reference) (rows : Option (ℕ × ℕ)) → after at_home ≡ option_map (on_area at_home) (option_map (λ (q : ℕ × ℕ). with_rows at_home.area q.0 q.1) rows) → relative to (on_sheet home sheet after at_home) ≡ or_deleted (rows_of home to r (cond (cond r.marks.sheet r.area.sheet home.sheet == sheet) rows (Some (at_home.area.first_row, at_home.area.last_row))))
  by_rows after rows is =
      ap (λ b. relative to (cond b (or_deleted (after at_home)) (t.Ref at_home))) on_home
      ∙ elim (cond r.marks.sheet r.area.sheet home.sheet == sheet) as (λ b. relative to (cond b (or_deleted (after at_home)) (t.Ref at_home)) ≡ or_deleted (rows_of home to r (cond b rows (Some (at_home.area.first_row, at_home.area.last_row))))) [
        | true ↦ relative_or to (after at_home) ∙ ap (λ o. or_deleted (option_map (relative_reference to) o)) is
        | false ↦ replaced-Ref (λ r. t.Ref (relative_reference to r)) at_home
      ]

pub after_is : (change : Change) (home to : Place) (r : Reference) → IsRowChange change → relative to (changed change home (absolute_reference home r)) ≡ or_deleted (reference_after change home to r)
after_is (Inserted sheet p c) home to r rows = by_rows home to r sheet (reference_after_insertion p c) (inserted_rows p c (absolute_reference home r).area.first_row (absolute_reference home r).area.last_row) (ap (option_map (on_area (absolute_reference home r))) (insertion_rows p c (absolute_reference home r).area))
after_is (Deleted sheet p c) home to r rows = by_rows home to r sheet (reference_after_deletion p c) (deleted_rows p c (absolute_reference home r).area.first_row (absolute_reference home r).area.last_row) (ap (option_map (on_area (absolute_reference home r))) (deletion_rows p c (absolute_reference home r).area))
after_is Stays home to r rows = absurd rows
after_is (Moves cols by) home to r rows = absurd rows

along : (moves : Bool) (x h d : ℕ) → 1 ≤ from_distance moves LAST_ROW x d → x ≤ h → Along moves x h (from_distance moves LAST_ROW x d) (from_distance moves LAST_ROW h d)
along true x h d from lower = (Decides-eqb _ _).1 (omega (arith, from, lower))
along false x h d from lower = (Decides-eqb _ _).1 refl

lower_end : (moves : Bool) (y d : ℕ) → 1 ≤ from_distance moves LAST_ROW y d → from_distance moves LAST_ROW y d ≤ LAST_ROW → from_distance moves LAST_ROW (y + 1) d ≤ LAST_ROW → cond moves (from_distance moves LAST_ROW y d + 1) (from_distance moves LAST_ROW y d) ≤ LAST_ROW
lower_end true y d from to next = omega (arith, from, next)
lower_end false y d from to next = to

-- the row to which a row goes, of a sheet of the change or of another
abbrev row_goes : Change → Bool → ℕ → ℕ
row_goes (Inserted sheet p c) on row = cond on (row_after_insertion p c row) row
row_goes (Deleted sheet p c) on row = cond on (row_after_deletion p c row) row
row_goes _ on row = row

module _ (p c x h y : ℕ) (first : x ≤ h) (last : h ≤ y) (side : nat_le p x ≡ nat_le p y) where
  inserted_go : (on : Bool) → AllGo x h y (λ n. n) (cond on (row_after_insertion p c x) x) (cond on (row_after_insertion p c h) h) (cond on (row_after_insertion p c y) y) ⊎ AllGo x h y (λ n. n + c) (cond on (row_after_insertion p c x) x) (cond on (row_after_insertion p c h) h) (cond on (row_after_insertion p c y) y)
  inserted_go false = inl (refl, (refl, refl))
  inserted_go true =
      elim (nat_le p x) as (λ b. nat_le p x ≡ b → AllGo x h y (λ n. n) (row_after_insertion p c x) (row_after_insertion p c h) (row_after_insertion p c y) ⊎ AllGo x h y (λ n. n + c) (row_after_insertion p c x) (row_after_insertion p c h) (row_after_insertion p c y)) [
        | true ↦ λ is. inr (grind (arith, nat_tests, is), (grind (arith, nat_tests, is, first), grind (arith, nat_tests, is, side)))
        | false ↦ λ is. inl (grind (arith, nat_tests, is), (grind (arith, nat_tests, is, side, last), grind (arith, nat_tests, is, side)))
      ] refl

  deleted_go : (on : Bool) → (on ≡ true → is_deleted p c x ≡ false) → AllGo x h y (λ n. n) (cond on (row_after_deletion p c x) x) (cond on (row_after_deletion p c h) h) (cond on (row_after_deletion p c y) y) ⊎ ((c ≤ x) × AllGo x h y (λ n. n - c) (cond on (row_after_deletion p c x) x) (cond on (row_after_deletion p c h) h) (cond on (row_after_deletion p c y) y))
  deleted_go false stays = inl (refl, (refl, refl))
  deleted_go true stays =
      let out = stays refl in
      elim (nat_le p x) as (λ b. nat_le p x ≡ b → AllGo x h y (λ n. n) (row_after_deletion p c x) (row_after_deletion p c h) (row_after_deletion p c y) ⊎ ((c ≤ x) × AllGo x h y (λ n. n - c) (row_after_deletion p c x) (row_after_deletion p c h) (row_after_deletion p c y))) [
        | true ↦ λ is. inr (grind (arith, nat_tests, is, out), (grind (arith, nat_tests, is), (grind (arith, nat_tests, is, first), grind (arith, nat_tests, is, side))))
        | false ↦ λ is. inl (grind (arith, nat_tests, is), (grind (arith, nat_tests, is, side, last), grind (arith, nat_tests, is, side)))
      ] refl

module _ (n x h y : ℕ) (first : x ≤ h) (last : h ≤ y) where
  -- where a row of the column goes
  goes_row : (change : Change) (k : ℕ) → IsRowChange change → (goes change (cell_in n k)).row ≡ row_goes change ((n / LAST_COL) == sheet_of change) k
  goes_row (Inserted sheet p c) k rows = elim ((n / LAST_COL) == sheet) as (λ b. (cond b (place_after_insertion p c (cell_in n k)) (cell_in n k)).row ≡ cond b (row_after_insertion p c k) k) [ true ↦ refl | false ↦ refl ]
  goes_row (Deleted sheet p c) k rows = elim ((n / LAST_COL) == sheet) as (λ b. (cond b (place_after_deletion p c (cell_in n k)) (cell_in n k)).row ≡ cond b (row_after_deletion p c k) k) [ true ↦ refl | false ↦ refl ]
  goes_row Stays k rows = absurd rows
  goes_row (Moves cols by) k rows = absurd rows

  goes_col : (change : Change) (k : ℕ) → (goes change (cell_in n k)).col ≡ (cell_in n k).col
  goes_col (Inserted sheet p c) k = elim ((n / LAST_COL) == sheet) as (λ b. (cond b (place_after_insertion p c (cell_in n k)) (cell_in n k)).col ≡ (cell_in n k).col) [ true ↦ refl | false ↦ refl ]
  goes_col (Deleted sheet p c) k = elim ((n / LAST_COL) == sheet) as (λ b. (cond b (place_after_deletion p c (cell_in n k)) (cell_in n k)).col ≡ (cell_in n k).col) [ true ↦ refl | false ↦ refl ]
  goes_col Stays k = refl
  goes_col (Moves cols by) k = refl

  module _ (r : Reference) (lies : (k : ℕ) → x ≤ k → k ≤ y + 1 → IsRectangle (absolute_reference (cell_in n k) r).area) where
    abbrev mf : Bool
    mf = has_rows r.span && not r.marks.first_row

    abbrev ml : Bool
    ml = has_rows r.span && not r.marks.last_row

    -- the rows of its area for the formula in a row
    abbrev a : ℕ → ℕ
    a k = (absolute_reference (cell_in n k) r).area.first_row

    abbrev b : ℕ → ℕ
    b k = (absolute_reference (cell_in n k) r).area.last_row

    lie : (k : ℕ) → x ≤ k → k ≤ y + 1 → Lie (a k) (b k)
    lie k low high = let is = lies k low high in record { from = is.rows_from; order = is.rows_in_order; to = is.rows_to }

    are_between : AreBetween mf ml x h y (a x) (b x) (a h) (b h) (a y) (b y)
    are_between =
        let at_x = lie x (omega arith) (omega (arith, first, last)) in
        let at_h = lie h first (omega (arith, last)) in
        let at_y = lie y (omega (arith, first, last)) (omega arith) in
        record {
          first = first;
          last = last;
          lie_x = at_x;
          lie_h = at_h;
          lie_y = at_y;
          first_x = along mf x h r.area.first_row at_x.from first;
          last_x = along ml x h r.area.last_row (omega (arith, at_x.from, at_x.order)) first;
          first_y = along mf h y r.area.first_row at_h.from last;
          last_y = along ml h y r.area.last_row (omega (arith, at_h.from, at_h.order)) last;
          lower = lower_end ml y r.area.last_row (omega (arith, at_y.from, at_y.order)) at_y.to (lie (y + 1) (omega (arith, first, last)) (omega arith)).to;
        }

    abbrev Test : Change → ℕ → ℕ → Type 0
    Test change k to = rows_test mf ml k to (a k) (b k) (after_rows change (is_on change (n / LAST_COL) r) (a k) (b k)) ≡ true

    tests_between : (change : Change) → IsRowChange change → nat_le (place_of change) x ≡ nat_le (place_of change) y → StaysIn change (cell_in n x) → Test change x (row_goes change ((n / LAST_COL) == sheet_of change) x) → Test change y (row_goes change ((n / LAST_COL) == sheet_of change) y) → Test change h (row_goes change ((n / LAST_COL) == sheet_of change) h)
    tests_between (Inserted sheet p c) rows side stays above below =
        inserted_between p c rows.from rows.some x h y (a x) (b x) (a h) (b h) (a y) (b y) (is_on (Inserted sheet p c) (n / LAST_COL) r) mf ml _ _ _ are_between (inserted_go p c x h y first last side ((n / LAST_COL) == sheet)) above below
    tests_between (Deleted sheet p c) rows side stays above below =
        deleted_between p c rows.from rows.some x h y (a x) (b x) (a h) (b h) (a y) (b y) (is_on (Deleted sheet p c) (n / LAST_COL) r) mf ml _ _ _ are_between (deleted_go p c x h y first last side ((n / LAST_COL) == sheet) (λ on. stays ((Decides-eqb (n / LAST_COL) sheet).0 on))) above below
    tests_between Stays rows side stays above below = absurd rows
    tests_between (Moves cols by) rows side stays above below = absurd rows

    pub reference_between : (change : Change) → IsRowChange change → nat_le (place_of change) x ≡ nat_le (place_of change) y → StaysIn change (cell_in n x) → ((k : ℕ) → x ≤ k → k ≤ y → (goes change (cell_in n k)).row ≤ LAST_ROW) → reference_after change (cell_in n x) (goes change (cell_in n x)) r ≡ Some r → reference_after change (cell_in n y) (goes change (cell_in n y)) r ≡ Some r → reference_after change (cell_in n h) (goes change (cell_in n h)) r ≡ Some r
    reference_between change rows side stays low above below =
        kept_rows (cell_in n h) (goes change (cell_in n h)) r (lies h first (omega (arith, last))) (low h first last) (goes_col change h) _
        (subst (Test change h) (sym (goes_row change h rows))
        (tests_between change rows side stays
        (subst (Test change x) (goes_row change x rows) (rows_kept (cell_in n x) (goes change (cell_in n x)) r (lies x (omega arith) (omega (arith, first, last))) (low x (omega arith) (omega (arith, first, last))) _ above))
        (subst (Test change y) (goes_row change y rows) (rows_kept (cell_in n y) (goes change (cell_in n y)) r (lies y (omega (arith, first, last)) (omega arith)) (low y (omega (arith, first, last)) (omega arith)) _ below))))

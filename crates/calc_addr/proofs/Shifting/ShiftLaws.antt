-- Shifts keep areas and references, and a deletion undoes an insertion.
use Rattle.std.proofs.Common.{◌≡◌, ℕ, ◌-◌, ◌≤◌, true, false, ◌&&◌, cond, min, Option, Some, None, refl, sym, ap, ◌∙◌, subst, arith, ⊎_elim}
use Rattle.std.specs.Prelude.{nat_le, option_map}
use Rattle.std.proofs.lemmas.Bool.{cond-true, cond-false, leb-true, and_from, and_left, eq-eqb, cases_Bool, not-true}
use Rattle.std.proofs.lemmas.Bool.Decides.{nat_tests}
use Rattle.calc_addr.specs.Places.{Rectangle, IsRectangle}
use Rattle.calc_addr.specs.References.{Reference, IsReference, IsValidReference, IsSpanned, IsOne, AreColumns, AreRows}
use Rattle.calc_addr.specs.Shifts.{area_after_insertion, area_after_deletion, has_all_rows, is_deleted, on_area, reference_after_insertion, reference_after_deletion, row_after_insertion, row_after_deletion, with_rows}
use Rattle.calc_addr.specs.declared.reference.Marks.{Marks}
use Rattle.calc_addr.specs.declared.reference.Span.{Span}
use Rattle.calc_addr.specs.declared.reference.Span.TheVariants as span
use Rattle.calc_addr.proofs.Shifting.ShiftedAreas.{kept, kept_unless}

-- an area with all rows stays
pub all_rows_stay_inserted : (place count : ℕ) (a : Rectangle) → has_all_rows a ≡ true → area_after_insertion place count a ≡ Some a
all_rows_stay_inserted place count a h = cond-true (has_all_rows a) _ _ h

pub all_rows_stay_deleted : (place count : ℕ) (a : Rectangle) → has_all_rows a ≡ true → area_after_deletion place count a ≡ Some a
all_rows_stay_deleted place count a h = cond-true (has_all_rows a) _ _ h

some_same : {A : Type 0} (x y : A) → Some x ≡ Some y → x ≡ y
some_same x y e = cc

-- an area whose case is not settled: it has all rows, or it is what the two ends give
module _ (P : Rectangle → Type 0) where
  by_insertion : (place count : ℕ) (a b : Rectangle) → P a → (row_after_insertion place count a.first_row ≤ 1048576 → P (with_rows a (row_after_insertion place count a.first_row) (min (row_after_insertion place count a.last_row) 1048576))) → area_after_insertion place count a ≡ Some b → P b
  by_insertion place count a b whole part e = ⊎_elim
      (λ all. subst P (some_same a b (sym (all_rows_stay_inserted place count a all) ∙ e)) whole)
      (λ some.
      let first = row_after_insertion place count a.first_row in
      let is = kept (has_all_rows a) (nat_le first 1048576) a (with_rows a first (min (row_after_insertion place count a.last_row) 1048576)) b some e in
      subst P is.same (part (leb-true first 1048576 is.kept)))
      (cases_Bool (has_all_rows a))

abbrev pub first_after : ℕ → ℕ → Rectangle → ℕ
first_after place count a = cond (is_deleted place count a.first_row) place (row_after_deletion place count a.first_row)

abbrev pub last_after : ℕ → ℕ → Rectangle → ℕ
last_after place count a = cond (is_deleted place count a.last_row) (place - 1) (row_after_deletion place count a.last_row)

module _ (P : Rectangle → Type 0) where
  by_deletion : (place count : ℕ) (a b : Rectangle) → P a → ((is_deleted place count a.first_row && is_deleted place count a.last_row) ≡ false → P (with_rows a (first_after place count a) (last_after place count a))) → area_after_deletion place count a ≡ Some b → P b
  by_deletion place count a b whole part e = ⊎_elim
      (λ all. subst P (some_same a b (sym (all_rows_stay_deleted place count a all) ∙ e)) whole)
      (λ some.
      let gone = is_deleted place count a.first_row && is_deleted place count a.last_row in
      let is = kept_unless (has_all_rows a) gone a (with_rows a (first_after place count a) (last_after place count a)) b some e in
      subst P is.same (part (not-true gone is.kept)))
      (cases_Bool (has_all_rows a))

-- the ends stay in order and in the sheet
record AreRowsOf (first last : ℕ) : Type 0 where
  from : 1 ≤ first
  ordered : first ≤ last
  to : last ≤ 1048576

insertion_rows : (place count f l : ℕ) → 1 ≤ f → f ≤ l → l ≤ 1048576 → row_after_insertion place count f ≤ 1048576 → AreRowsOf (row_after_insertion place count f) (min (row_after_insertion place count l) 1048576)
insertion_rows place count f l from ordered to stays = record { from = grind (arith, nat_tests); ordered = grind (arith, nat_tests); to = omega arith }

deletion_rows : (place count f l : ℕ) → 1 ≤ place → 1 ≤ f → f ≤ l → l ≤ 1048576 → (is_deleted place count f && is_deleted place count l) ≡ false → AreRowsOf (cond (is_deleted place count f) place (row_after_deletion place count f)) (cond (is_deleted place count l) (place - 1) (row_after_deletion place count l))
deletion_rows place count f l low from ordered to some = record { from = grind (arith, nat_tests); ordered = grind (arith, nat_tests); to = grind (arith, nat_tests) }

with_rows-IsRectangle : (a : Rectangle) (first last : ℕ) → IsRectangle a → AreRowsOf first last → IsRectangle (with_rows a first last)
with_rows-IsRectangle a first last lies rows = record {
  sheet_in = lies.sheet_in;
  cols_from = lies.cols_from;
  cols_in_order = lies.cols_in_order;
  cols_to = lies.cols_to;
  rows_from = rows.from;
  rows_in_order = rows.ordered;
  rows_to = rows.to;
}

pub IsRectangle-insertion : (place count : ℕ) (a b : Rectangle) → IsRectangle a → area_after_insertion place count a ≡ Some b → IsRectangle b
IsRectangle-insertion place count a b lies e =
    by_insertion IsRectangle place count a b lies
    (λ stays. with_rows-IsRectangle a _ _ lies (insertion_rows place count a.first_row a.last_row lies.rows_from lies.rows_in_order lies.rows_to stays)) e

pub IsRectangle-deletion : (place count : ℕ) (a b : Rectangle) → 1 ≤ place → IsRectangle a → area_after_deletion place count a ≡ Some b → IsRectangle b
IsRectangle-deletion place count a b low lies e =
    by_deletion IsRectangle place count a b lies
    (λ some. with_rows-IsRectangle a _ _ lies (deletion_rows place count a.first_row a.last_row low lies.rows_from lies.rows_in_order lies.rows_to some)) e

-- how a reference is spelled stays true of it: an area with all rows stays, and one row stays one
has_all_rows-whole : (a : Rectangle) (m : Marks) → AreColumns a m → has_all_rows a ≡ true
has_all_rows-whole a m is = and_from _ _ (eq-eqb _ _ is.from_top) (eq-eqb _ _ is.to_end)

one_inserted : (place count f l : ℕ) → f ≡ l → row_after_insertion place count f ≤ 1048576 → row_after_insertion place count f ≡ min (row_after_insertion place count l) 1048576
one_inserted place count f l e h = grind (arith, nat_tests)

one_deleted : (place count f l : ℕ) → f ≡ l → (is_deleted place count f && is_deleted place count l) ≡ false → cond (is_deleted place count f) place (row_after_deletion place count f) ≡ cond (is_deleted place count l) (place - 1) (row_after_deletion place count l)
one_deleted place count f l e h = grind (arith, nat_tests)

pub IsSpanned-insertion : (s : Span) (m : Marks) (place count : ℕ) (a b : Rectangle) → IsSpanned s a m → area_after_insertion place count a ≡ Some b → IsSpanned s b m
IsSpanned-insertion span.One m place count a b is e =
    by_insertion (λ c. IsOne c m) place count a b is
    (λ stays. record { one_col = is.one_col; one_row = one_inserted place count a.first_row a.last_row is.one_row stays; col_marks = is.col_marks; row_marks = is.row_marks }) e
IsSpanned-insertion span.Cells m place count a b is e = tt
IsSpanned-insertion span.Columns m place count a b is e =
    let Whole : Rectangle → Type 0 = λ c. AreColumns c m in
    subst Whole (some_same a b (sym (all_rows_stay_inserted place count a (has_all_rows-whole a m is)) ∙ e)) is
IsSpanned-insertion span.Rows m place count a b is e =
    by_insertion (λ c. AreRows c m) place count a b is
    (λ stays. record { from_left = is.from_left; to_end = is.to_end; first_unmarked = is.first_unmarked; last_unmarked = is.last_unmarked }) e

pub IsSpanned-deletion : (s : Span) (m : Marks) (place count : ℕ) (a b : Rectangle) → IsSpanned s a m → area_after_deletion place count a ≡ Some b → IsSpanned s b m
IsSpanned-deletion span.One m place count a b is e =
    by_deletion (λ c. IsOne c m) place count a b is
    (λ some. record { one_col = is.one_col; one_row = one_deleted place count a.first_row a.last_row is.one_row some; col_marks = is.col_marks; row_marks = is.row_marks }) e
IsSpanned-deletion span.Cells m place count a b is e = tt
IsSpanned-deletion span.Columns m place count a b is e =
    let Whole : Rectangle → Type 0 = λ c. AreColumns c m in
    subst Whole (some_same a b (sym (all_rows_stay_deleted place count a (has_all_rows-whole a m is)) ∙ e)) is
IsSpanned-deletion span.Rows m place count a b is e =
    by_deletion (λ c. AreRows c m) place count a b is
    (λ some. record { from_left = is.from_left; to_end = is.to_end; first_unmarked = is.first_unmarked; last_unmarked = is.last_unmarked }) e

-- the sheet stays
sheet_inserted : (place count : ℕ) (a b : Rectangle) → area_after_insertion place count a ≡ Some b → b.sheet ≡ a.sheet
sheet_inserted place count a b e = by_insertion (λ c. c.sheet ≡ a.sheet) place count a b refl (λ _. refl) e

sheet_deleted : (place count : ℕ) (a b : Rectangle) → area_after_deletion place count a ≡ Some b → b.sheet ≡ a.sheet
sheet_deleted place count a b e = by_deletion (λ c. c.sheet ≡ a.sheet) place count a b refl (λ _. refl) e

-- a shifted reference is one on the shifted area
record IsOnShifted (o : Option Rectangle) (r s : Reference) : Type 0 where
  area : o ≡ Some s.area
  same : on_area r s.area ≡ s

shifted : (o : Option Rectangle) (r s : Reference) → option_map (on_area r) o ≡ Some s → IsOnShifted o r s
shifted None r s e = cc
shifted (Some b) r s e =
    let same : on_area r b ≡ s = cc in
    let area : b ≡ s.area = ap (λ (t : Reference). t.area) same in
    record { area = ap Some area; same = ap (on_area r) (sym area) ∙ same }

pub IsReference-insertion : (place count : ℕ) (r s : Reference) → IsReference r → reference_after_insertion place count r ≡ Some s → IsReference s
IsReference-insertion place count r s is e =
    let to = shifted (area_after_insertion place count r.area) r s e in
    subst IsReference to.same (record {
      spanned = IsSpanned-insertion r.span r.marks place count r.area s.area is.spanned to.area;
      own_sheet = λ h. sheet_inserted place count r.area s.area to.area ∙ is.own_sheet h;
    })

pub IsReference-deletion : (place count : ℕ) (r s : Reference) → IsReference r → reference_after_deletion place count r ≡ Some s → IsReference s
IsReference-deletion place count r s is e =
    let to = shifted (area_after_deletion place count r.area) r s e in
    subst IsReference to.same (record {
      spanned = IsSpanned-deletion r.span r.marks place count r.area s.area is.spanned to.area;
      own_sheet = λ h. sheet_deleted place count r.area s.area to.area ∙ is.own_sheet h;
    })

pub inserted_stays_valid : (place count : ℕ) (r s : Reference) → IsValidReference r → reference_after_insertion place count r ≡ Some s → IsValidReference s
inserted_stays_valid place count r s is e =
    let to = shifted (area_after_insertion place count r.area) r s e in
    record { lies = IsRectangle-insertion place count r.area s.area is.lies to.area; spelled = IsReference-insertion place count r s is.spelled e }

pub deleted_stays_valid : (place count : ℕ) (r s : Reference) → 1 ≤ place → IsValidReference r → reference_after_deletion place count r ≡ Some s → IsValidReference s
deleted_stays_valid place count r s low is e =
    let to = shifted (area_after_deletion place count r.area) r s e in
    record { lies = IsRectangle-deletion place count r.area s.area low is.lies to.area; spelled = IsReference-deletion place count r s is.spelled e }

-- a deletion undoes an insertion that cut nothing off
back : (place count row : ℕ) → row_after_deletion place count (row_after_insertion place count row) ≡ row
back place count row = grind (arith, nat_tests)

not_there : (place count row : ℕ) → is_deleted place count (row_after_insertion place count row) ≡ false
not_there place count row = grind (arith, nat_tests)

undone : (place count : ℕ) (a : Rectangle) → has_all_rows (with_rows a (row_after_insertion place count a.first_row) (row_after_insertion place count a.last_row)) ≡ false → area_after_deletion place count (with_rows a (row_after_insertion place count a.first_row) (row_after_insertion place count a.last_row)) ≡ Some a
undone place count a part =
    let first = row_after_insertion place count a.first_row in
    let last = row_after_insertion place count a.last_row in
    let first_stays = not_there place count a.first_row in
    let last_stays = not_there place count a.last_row in
    let first_back = cond-false (is_deleted place count first) place (row_after_deletion place count first) first_stays ∙ back place count a.first_row in
    let last_back = cond-false (is_deleted place count last) (place - 1) (row_after_deletion place count last) last_stays ∙ back place count a.last_row in
    cond-false (has_all_rows (with_rows a first last)) _ _ part
    ∙ cond-false (is_deleted place count first && is_deleted place count last) _ _ (and_left (is_deleted place count first) _ first_stays)
    ∙ ap (λ n. Some (with_rows a n (cond (is_deleted place count last) (place - 1) (row_after_deletion place count last)))) first_back
    ∙ ap (λ n. Some (with_rows a a.first_row n)) last_back

all_rows_same : (place count : ℕ) (a b : Rectangle) → area_after_insertion place count a ≡ Some b → has_all_rows a ≡ true → a ≡ b
all_rows_same place count a b e all = some_same a b (sym (all_rows_stay_inserted place count a all) ∙ e)

-- unless it came to have all rows
pub area_after_deletion-insertion : (place count : ℕ) (a b : Rectangle) → area_after_insertion place count a ≡ Some b → row_after_insertion place count a.last_row ≤ 1048576 → has_all_rows b ≡ has_all_rows a → area_after_deletion place count b ≡ Some a
area_after_deletion-insertion place count a b e uncut part = ⊎_elim
    (λ all. all_rows_stay_deleted place count b (part ∙ all) ∙ ap Some (sym (all_rows_same place count a b e all)))
    (λ some.
    let first = row_after_insertion place count a.first_row in
    let last = row_after_insertion place count a.last_row in
    let is = kept (has_all_rows a) (nat_le first 1048576) a (with_rows a first (min last 1048576)) b some e in
    let whole : min last 1048576 ≡ last = omega arith in
    let same : with_rows a first last ≡ b = ap (with_rows a first) (sym whole) ∙ is.same in
    ap (area_after_deletion place count) (sym same) ∙ undone place count a (ap has_all_rows same ∙ part ∙ some))
    (cases_Bool (has_all_rows a))

pub has_all_rows-deletion-insertion : (place count : ℕ) (a b : Rectangle) → area_after_insertion place count a ≡ Some b → area_after_deletion place count b ≡ Some a → has_all_rows b ≡ has_all_rows a
has_all_rows-deletion-insertion place count a b e back = ⊎_elim
    (λ all. ap has_all_rows (some_same b a (sym (all_rows_stay_deleted place count b all) ∙ back)))
    (λ some. ⊎_elim
    (λ all. ap has_all_rows (sym (all_rows_same place count a b e all)))
    (λ part. some ∙ sym part)
    (cases_Bool (has_all_rows a)))
    (cases_Bool (has_all_rows b))

pub reference_after_deletion-insertion : (place count : ℕ) (r s : Reference) → reference_after_insertion place count r ≡ Some s → row_after_insertion place count r.area.last_row ≤ 1048576 → has_all_rows s.area ≡ has_all_rows r.area → reference_after_deletion place count s ≡ Some r
reference_after_deletion-insertion place count r s e uncut part =
    let to = shifted (area_after_insertion place count r.area) r s e in
    ap (option_map (on_area s)) (area_after_deletion-insertion place count r.area s.area to.area uncut part)
    ∙ ap (λ (t : Reference). Some (on_area t r.area)) (sym to.same)

pub has_all_rows-reference_back : (place count : ℕ) (r s : Reference) → reference_after_insertion place count r ≡ Some s → reference_after_deletion place count s ≡ Some r → has_all_rows s.area ≡ has_all_rows r.area
has_all_rows-reference_back place count r s e back =
    let to = shifted (area_after_insertion place count r.area) r s e in
    let from = shifted (area_after_deletion place count s.area) s r back in
    has_all_rows-deletion-insertion place count r.area s.area to.area from.area

-- Areas whose sheet loses or gets rows: its cells go with the rows.
use Rattle.std.proofs.Common.{◌≡◌, ℕ, ◌-◌, ◌<◌, ◌≤◌, Bool, true, false, not, ◌&&◌, cond, min, Some, None, refl, sym, ap, ◌∙◌, arith}
use Rattle.std.specs.Prelude.{nat_le, ◌==◌}
use Rattle.std.proofs.lemmas.Bool.{leb-true, leb-false, le-leb, and_parts}
use Rattle.std.proofs.lemmas.Bool.Decides.{nat_tests}
use Rattle.calc_addr.specs.Places.{Place, Rectangle, covers}
use Rattle.calc_addr.proofs.Walking.Places.{IsCovered-from}
use Rattle.calc_addr.specs.Shifts.{area_after_insertion, area_after_deletion, has_all_rows, is_deleted, row_after_insertion, row_after_deletion, with_rows}

-- the rows of an insertion keep their order
nat_le-insertion : (place count f x : ℕ) → nat_le (row_after_insertion place count f) (row_after_insertion place count x) ≡ nat_le f x
nat_le-insertion place count f x = grind (arith, nat_tests)

nat_le-insertion_cut : (place count x l : ℕ) → row_after_insertion place count x ≤ 1048576 → nat_le (row_after_insertion place count x) (min (row_after_insertion place count l) 1048576) ≡ nat_le x l
nat_le-insertion_cut place count x l h = grind (arith, nat_tests)

first_deletion : (place count f x : ℕ) → is_deleted place count x ≡ false → nat_le (cond (is_deleted place count f) place (row_after_deletion place count f)) (row_after_deletion place count x) ≡ nat_le f x
first_deletion place count f x h = grind (arith, nat_tests)

last_deletion : (place count x l : ℕ) → 1 ≤ place → is_deleted place count x ≡ false → nat_le (row_after_deletion place count x) (cond (is_deleted place count l) (place - 1) (row_after_deletion place count l)) ≡ nat_le x l
last_deletion place count x l low h = grind (arith, nat_tests)

between : (place count f x l : ℕ) → f ≤ x → x ≤ l → is_deleted place count f ≡ true → is_deleted place count l ≡ true → is_deleted place count x ≡ true
between place count f x l low high first last = grind (arith, nat_tests)

-- an area that neither has all rows nor is deleted
pub record IsKept {A : Type 0} (goes : Bool) (b x : A) : Type 0 where
  pub kept : goes ≡ true
  pub same : x ≡ b

pub kept : {A : Type 0} (all goes : Bool) (a x b : A) → all ≡ false → cond all (Some a) (cond goes (Some x) None) ≡ Some b → IsKept goes b x
kept true goes a x b h e = cc
kept false true a x b h e = record { kept = refl; same = cc }
kept false false a x b h e = cc

pub kept_unless : {A : Type 0} (all goes : Bool) (a x b : A) → all ≡ false → cond all (Some a) (cond goes None (Some x)) ≡ Some b → IsKept (not goes) b x
kept_unless true goes a x b h e = cc
kept_unless false true a x b h e = cc
kept_unless false false a x b h e = record { kept = refl; same = cc }

-- what is covered depends on rows by two tests
covers-with_rows : (a : Rectangle) (first last row : ℕ) (q : Place) → nat_le first row ≡ nat_le a.first_row q.row → nat_le row last ≡ nat_le q.row a.last_row → covers (with_rows a first last) (record q { row = row }) ≡ covers a q
covers-with_rows a first last row q above below =
    ap (λ t. (((q.sheet == a.sheet) && nat_le a.first_col q.col && nat_le q.col a.last_col) && t) && nat_le row last) above
    ∙ ap (λ t. (((q.sheet == a.sheet) && nat_le a.first_col q.col && nat_le q.col a.last_col) && nat_le a.first_row q.row) && t) below

-- a cell lies in the area after an insertion where it lay in it before
pub covers_after_insertion : (place count : ℕ) (a b : Rectangle) (q : Place) → has_all_rows a ≡ false → area_after_insertion place count a ≡ Some b → row_after_insertion place count q.row ≤ 1048576 → covers b (record q { row = row_after_insertion place count q.row }) ≡ covers a q
covers_after_insertion place count a b q part e stays =
    let first = row_after_insertion place count a.first_row in
    let last = min (row_after_insertion place count a.last_row) 1048576 in
    let row = row_after_insertion place count q.row in
    let is = kept (has_all_rows a) (nat_le first 1048576) a (with_rows a first last) b part e in
    ap (λ (c : Rectangle). covers c (record q { row = row })) (sym is.same)
    ∙ covers-with_rows a first last row q (nat_le-insertion place count a.first_row q.row) (nat_le-insertion_cut place count q.row a.last_row stays)

-- and after a deletion, unless it is deleted
pub covers_after_deletion : (place count : ℕ) (a b : Rectangle) (q : Place) → 1 ≤ place → has_all_rows a ≡ false → area_after_deletion place count a ≡ Some b → is_deleted place count q.row ≡ false → covers b (record q { row = row_after_deletion place count q.row }) ≡ covers a q
covers_after_deletion place count a b q low part e stays =
    let first = cond (is_deleted place count a.first_row) place (row_after_deletion place count a.first_row) in
    let last = cond (is_deleted place count a.last_row) (place - 1) (row_after_deletion place count a.last_row) in
    let row = row_after_deletion place count q.row in
    let is = kept_unless (has_all_rows a) (is_deleted place count a.first_row && is_deleted place count a.last_row) a (with_rows a first last) b part e in
    ap (λ (c : Rectangle). covers c (record q { row = row })) (sym is.same)
    ∙ covers-with_rows a first last row q (first_deletion place count a.first_row q.row stays) (last_deletion place count q.row a.last_row low stays)

-- a deleted area has lost all its cells
lost : {A : Type 0} (all goes : Bool) (a x : A) → cond all (Some a) (cond goes (Some x) None) ≡ None → goes ≡ false
lost true goes a x e = cc
lost false true a x e = cc
lost false false a x e = refl

lost_if : {A : Type 0} (all goes : Bool) (a x : A) → cond all (Some a) (cond goes None (Some x)) ≡ None → goes ≡ true
lost_if true goes a x e = cc
lost_if false true a x e = refl
lost_if false false a x e = cc

pub lost_by_insertion : (place count : ℕ) (a : Rectangle) (q : Place) → area_after_insertion place count a ≡ None → covers a q ≡ true → 1048576 < row_after_insertion place count q.row
lost_by_insertion place count a q e has =
    let first = row_after_insertion place count a.first_row in
    let away = leb-false first 1048576 (lost (has_all_rows a) (nat_le first 1048576) a (with_rows a first (min (row_after_insertion place count a.last_row) 1048576)) e) in
    let below = (IsCovered-from a q has).rows_from in
    let moved = leb-true _ _ (nat_le-insertion place count a.first_row q.row ∙ le-leb _ _ below) in
    omega arith

pub lost_by_deletion : (place count : ℕ) (a : Rectangle) (q : Place) → area_after_deletion place count a ≡ None → covers a q ≡ true → is_deleted place count q.row ≡ true
lost_by_deletion place count a q e has =
    let gone = and_parts (is_deleted place count a.first_row) _ (lost_if (has_all_rows a) _ a _ e) in
    let inside = IsCovered-from a q has in
    between place count a.first_row q.row a.last_row inside.rows_from inside.rows_to gone.0 gone.1

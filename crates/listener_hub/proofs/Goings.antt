-- Where cells go in row edits.
use Rattle.std.proofs.Common.{◌≡◌, ◌⊎◌, inl, inr, ℕ, true, false, cond, Option, Some, None, refl, sym, ap, ◌∙◌, ⊎_elim, arith}
use Rattle.std.specs.Prelude.{◌==◌, option_map}
use Rattle.std.proofs.lemmas.Bool.{cases_Bool, false≢true}
use Rattle.std.proofs.lemmas.Bool.Decides.{nat_tests}
use Rattle.calc_addr.specs.Places.{Place}
use Rattle.calc_addr.specs.Shifts.{is_deleted, row_after_deletion, row_after_insertion}
use Rattle.ears.specs.declared.row_edit.Change.{Change}
use Rattle.ears.specs.declared.row_edit.Change.TheVariants.{Insertion, Deletion}
use Rattle.ears.specs.declared.row_edit.RowEdit.{RowEdit}
use Rattle.ears.specs.RowEdits.{place_after, place_by, row_by}
use Rattle.ears.proofs.RunsMoved.{place_by_row}

some_same : {X : Type 0} {x y : X} → Some x ≡ Some y → x ≡ y
some_same h = cc

some_none : {X : Type 0} {x : X} → Some x ≡ None → ⊥
some_none h = cc

elsewhere_stays : (change : Change) (sheet place count : ℕ) (q : Place) → (q.sheet == sheet) ≡ false → place_by change sheet place count q ≡ Some q
elsewhere_stays Insertion sheet place count q e = rw e refl
elsewhere_stays Deletion sheet place count q e = rw e refl

-- a cell keeps its sheet and its column, and on the edited sheet goes with its row
pub record Goes (edit : RowEdit) (q d : Place) : Type 0 where
  pub sheet : d.sheet ≡ q.sheet
  pub col : d.col ≡ q.col
  pub row : ((q.sheet == edit.sheet) ≡ true) × (row_by edit.change edit.place edit.count q.row ≡ Some d.row) ⊎ (((q.sheet == edit.sheet) ≡ false) × (q ≡ d))

from_row : (q d : Place) (o : Option ℕ) → option_map (λ row. record q { row = row }) o ≡ Some d → (d.sheet ≡ q.sheet) × (d.col ≡ q.col) × (o ≡ Some d.row)
from_row q d None h = absurd (none h)
  where
    none : None ≡ Some d → ⊥
    none h = cc
from_row q d (Some r) h =
    let e : record q { row = r } ≡ d = some_same h in
    (sym (ap (λ (p : Place). p.sheet) e), sym (ap (λ (p : Place). p.col) e), ap (λ (p : Place). Some p.row) e)

pub goes : (edit : RowEdit) (q d : Place) → place_after edit q ≡ Some d → Goes edit q d
goes edit q d h =
    ⊎_elim
    (λ (e : (q.sheet == edit.sheet) ≡ true).
    let parts = from_row q d (row_by edit.change edit.place edit.count q.row) (sym (place_by_row edit.change edit.sheet edit.place edit.count q e) ∙ h) in
    record { sheet = parts.0; col = parts.1; row = inl (e, parts.2) })
    (λ (e : (q.sheet == edit.sheet) ≡ false).
    let same : q ≡ d = some_same (sym (elsewhere_stays edit.change edit.sheet edit.place edit.count q e) ∙ h) in
    record { sheet = sym (ap (λ (p : Place). p.sheet) same); col = sym (ap (λ (p : Place). p.col) same); row = inr (e, same) })
    (cases_Bool (q.sheet == edit.sheet))

row_one : (change : Change) (place count a b r : ℕ) → row_by change place count a ≡ Some r → row_by change place count b ≡ Some r → a ≡ b
row_one Insertion place count a b r h k = inserted (some_same h) (some_same k)
  where
    inserted : row_after_insertion place count a ≡ r → row_after_insertion place count b ≡ r → a ≡ b
    inserted h k = grind (arith, nat_tests)
row_one Deletion place count a b r h k =
    let ha = kept a h in
    let kb = kept b k in
    deleted ha.0 kb.0 ha.1 kb.1
  where
    kept : (x : ℕ) → row_by Deletion place count x ≡ Some r → (is_deleted place count x ≡ false) × (row_after_deletion place count x ≡ r)
    kept x h =
        ⊎_elim (λ (e : is_deleted place count x ≡ true). absurd (none (sym (ap (λ b. cond b None (Some (row_after_deletion place count x))) e) ∙ h)))
        (λ (e : is_deleted place count x ≡ false). (e, some_same (sym (ap (λ b. cond b None (Some (row_after_deletion place count x))) e) ∙ h)))
        (cases_Bool (is_deleted place count x))
      where
        none : None ≡ Some r → ⊥
        none h = cc

    deleted : is_deleted place count a ≡ false → is_deleted place count b ≡ false → row_after_deletion place count a ≡ r → row_after_deletion place count b ≡ r → a ≡ b
    deleted h k l m = grind (arith, nat_tests)

same_place : {s t c d r q : ℕ} → s ≡ t → c ≡ d → r ≡ q → ◌≡◌ {A = Place} (record { sheet = s; col = c; row = r }) (record { sheet = t; col = d; row = q })
same_place a b c = cc

-- no two cells go to one place
pub one_to_one : (edit : RowEdit) (p q d : Place) → place_after edit p ≡ Some d → place_after edit q ≡ Some d → p ≡ q
one_to_one edit p q d h k =
    let a = goes edit p d h in
    let b = goes edit q d k in
    let sheet : p.sheet ≡ q.sheet = sym a.sheet ∙ b.sheet in
    ⊎_elim
    (λ (x : ((p.sheet == edit.sheet) ≡ true) × (row_by edit.change edit.place edit.count p.row ≡ Some d.row)).
    ⊎_elim
    (λ (y : ((q.sheet == edit.sheet) ≡ true) × (row_by edit.change edit.place edit.count q.row ≡ Some d.row)).
    same_place sheet (sym a.col ∙ b.col) (row_one edit.change edit.place edit.count p.row q.row d.row x.1 y.1))
    (λ (y : ((q.sheet == edit.sheet) ≡ false) × (q ≡ d)). absurd (false≢true (sym y.0 ∙ ap (λ n. n == edit.sheet) (sym sheet) ∙ x.0)))
    b.row)
    (λ (x : ((p.sheet == edit.sheet) ≡ false) × (p ≡ d)).
    ⊎_elim
    (λ (y : ((q.sheet == edit.sheet) ≡ true) × (row_by edit.change edit.place edit.count q.row ≡ Some d.row)). absurd (false≢true (sym x.0 ∙ ap (λ n. n == edit.sheet) sheet ∙ y.0)))
    (λ (y : ((q.sheet == edit.sheet) ≡ false) × (q ≡ d)). x.1 ∙ sym y.1)
    b.row)
    a.row

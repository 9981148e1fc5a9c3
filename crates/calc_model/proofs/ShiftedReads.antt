-- Inserted or deleted rows leave a formula as it is where they change none of the areas that it reads.
use Rattle.std.proofs.Common.{◌≡◌, ◌-◌, ℕ, Bool, true, false, ◌&&◌, ◌||◌, not, cond, min, nat_le, List, [], ◌∷◌, ◌++◌, map, Option, Some, None, refl, sym, ap, ◌∙◌}
use Rattle.std.specs.Prelude.{◌==◌, option_map}
use Rattle.std.specs.List.{AllByRecursion, flat_map, list_any}
use Rattle.std.proofs.lemmas.Bool.{eqb-true}
use Rattle.calc_addr.specs.declared.cell.TheConstants.{LAST_ROW}
use Rattle.calc_addr.specs.Places.{Place, Rectangle}
use Rattle.calc_addr.specs.References.{Reference, here}
use Rattle.calc_addr.specs.Shifts.{area_after_deletion, area_after_insertion, has_all_rows, is_deleted, on_area, row_after_deletion, row_after_insertion, with_rows}
use Rattle.calc_model.specs.declared.tree.Tree.{Tree}
use Rattle.calc_model.specs.declared.tree.Tree.TheVariants as t
use Rattle.calc_model.specs.Reads.{Names, areas, areas_step}
use Rattle.calc_model.specs.RowEdits.{has_rows_of, is_changed}
use Rattle.calc_model.specs.TreeShifts.{on_sheet, or_deleted, replaced, tree_after_deletion, tree_after_insertion}
use Rattle.calc_model.proofs.Areas.{both_true}
use Rattle.calc_model.proofs.Replaced.{replaced-Number, replaced-Words, replaced-Bad, replaced-Ref, replaced-Name, replaced-Call, replaced-Paren, replaced-Plus, replaced-Minus, replaced-Percent, replaced-Binary, map_same}
use Rattle.calc_model.proofs.TreeFolds.{at-Ref, at-Call, at-Paren, at-Plus, at-Minus, at-Percent, at-Binary}
use Rattle.calc_model.proofs.TreeInduction.{tree_ind}

pub neither : (b c : Bool) → (b || c) ≡ false → (b ≡ false) × (c ≡ false)
neither true c h = cc
neither false c h = (refl, h)

pub none_of_both : {X : Type 0} (p : X → Bool) (xs ys : List X) → list_any p (xs ++ ys) ≡ false → (list_any p xs ≡ false) × (list_any p ys ≡ false)
none_of_both p [] ys h = (refl, h)
none_of_both p (x ∷ xs) ys h =
    let parts = neither (p x) (list_any p (xs ++ ys)) h in
    let rest = none_of_both p xs ys parts.1 in
    (ap (λ b. b || list_any p xs) parts.0 ∙ rest.0, rest.1)

-- an area at other rows, or deleted, as rows of a sheet are edited
module _ (all gone : Bool) (first last : ℕ) where
  abbrev after : Rectangle → Option Rectangle
  after a = cond all (Some a) (cond gone None (Some (with_rows a first last)))

  -- the sheet says nothing
  same_rows : (a : Rectangle) (sheet : ℕ) → has_rows_of (record a { sheet = sheet }) (after (record a { sheet = sheet })) ≡ has_rows_of a (after a)
  same_rows a sheet =
      elim all as (λ b. has_rows_of (record a { sheet = sheet }) (cond b (Some (record a { sheet = sheet })) (cond gone None (Some (with_rows (record a { sheet = sheet }) first last)))) ≡ has_rows_of a (cond b (Some a) (cond gone None (Some (with_rows a first last))))) [
        | true ↦ refl
        | false ↦ elim gone as (λ b. has_rows_of (record a { sheet = sheet }) (cond b None (Some (with_rows (record a { sheet = sheet }) first last))) ≡ has_rows_of a (cond b None (Some (with_rows a first last)))) [ true ↦ refl | false ↦ refl ]
      ]

  stays : (a : Rectangle) → has_rows_of a (after a) ≡ true → after a ≡ Some a
  stays a =
      elim all as (λ b. has_rows_of a (cond b (Some a) (cond gone None (Some (with_rows a first last)))) ≡ true → cond b (Some a) (cond gone None (Some (with_rows a first last))) ≡ Some a) [
        | true ↦ λ _. refl
        | false ↦ elim gone as (λ b. has_rows_of a (cond b None (Some (with_rows a first last))) ≡ true → cond b None (Some (with_rows a first last)) ≡ Some a) [
          | true ↦ λ h. cc
          | false ↦ λ h.
              let rows = both_true (first == a.first_row) (last == a.last_row) h in
              ap (λ n. Some (with_rows a n last)) (eqb-true first a.first_row rows.0) ∙ ap (λ n. Some (with_rows a a.first_row n)) (eqb-true last a.last_row rows.1)
        ]
      ]

turned : {A : Type 0} (b : Bool) (x y : A) → cond b x y ≡ cond (not b) y x
turned true x y = refl
turned false x y = refl

-- what becomes of areas, where the sheet says nothing and an area that keeps its rows stays
pub record GoesByRows (change : Rectangle → Option Rectangle) : Type 0 where
  pub same : (a : Rectangle) (sheet : ℕ) → has_rows_of (record a { sheet = sheet }) (change (record a { sheet = sheet })) ≡ has_rows_of a (change a)
  pub stay : (a : Rectangle) → has_rows_of a (change a) ≡ true → change a ≡ Some a

pub insertion_goes : (place count : ℕ) → GoesByRows (area_after_insertion place count)
insertion_goes place count =
    let first : Rectangle → ℕ = λ a. row_after_insertion place count a.first_row in
    let last : Rectangle → ℕ = λ a. min (row_after_insertion place count a.last_row) LAST_ROW in
    let gone : Rectangle → Bool = λ a. not (nat_le (first a) LAST_ROW) in
    let is : (a : Rectangle) → area_after_insertion place count a ≡ after (has_all_rows a) (gone a) (first a) (last a) a =
    λ a. ap (λ o. cond (has_all_rows a) (Some a) o) (turned (nat_le (first a) LAST_ROW) (Some (with_rows a (first a) (last a))) None) in
    record {
      same = λ a sheet. rw (is a, is (record a { sheet = sheet })) (same_rows (has_all_rows a) (gone a) (first a) (last a) a sheet);
      stay = λ a. rw (is a) (stays (has_all_rows a) (gone a) (first a) (last a) a);
    }

pub deletion_goes : (place count : ℕ) → GoesByRows (area_after_deletion place count)
deletion_goes place count =
    let first : Rectangle → ℕ = λ a. cond (is_deleted place count a.first_row) place (row_after_deletion place count a.first_row) in
    let last : Rectangle → ℕ = λ a. cond (is_deleted place count a.last_row) (place - 1) (row_after_deletion place count a.last_row) in
    let gone : Rectangle → Bool = λ a. is_deleted place count a.first_row && is_deleted place count a.last_row in
    record {
      same = λ a. same_rows (has_all_rows a) (gone a) (first a) (last a) a;
      stay = λ a. stays (has_all_rows a) (gone a) (first a) (last a) a;
    }

pub not_false : (b : Bool) → not b ≡ false → b ≡ true
not_false true h = refl
not_false false h = cc

module _ (home : Place) (names : Names) (sheet : ℕ) (change : Rectangle → Option Rectangle) (goes : GoesByRows change) where
  abbrev by : Reference → Tree
  by = on_sheet home sheet (λ r. option_map (on_area r) (change r.area))

  abbrev unchanged : Tree → Type 0
  unchanged x = list_any (is_changed sheet change) (areas home names x) ≡ false

  here_rows : (r : Reference) → has_rows_of (here r home) (change (here r home)) ≡ true → has_rows_of r.area (change r.area) ≡ true
  here_rows r =
      elim r.marks.sheet as (λ b. has_rows_of (cond b r.area (record r.area { sheet = home.sheet })) (change (cond b r.area (record r.area { sheet = home.sheet }))) ≡ true → has_rows_of r.area (change r.area) ≡ true) [
        | true ↦ λ h. h
        | false ↦ λ h. sym (goes.same r.area home.sheet) ∙ h
      ]

  reference_stays : (r : Reference) → is_changed sheet change (here r home) ≡ false → by r ≡ t.Ref r
  reference_stays r =
      elim ((here r home).sheet == sheet) as (λ b. (b && not (has_rows_of (here r home) (change (here r home)))) ≡ false → cond b (or_deleted (option_map (on_area r) (change r.area))) (t.Ref r) ≡ t.Ref r) [
        | true ↦ λ h. ap (λ o. or_deleted (option_map (on_area r) o)) (goes.stay r.area (here_rows r (not_false _ h)))
        | false ↦ λ _. refl
      ]

  abbrev Stays : Tree → Type 0
  Stays x = unchanged x → replaced by x ≡ x

  children_stay : (xs : List Tree) → AllByRecursion Stays xs → list_any (is_changed sheet change) (flat_map (λ areas. areas) (map (areas home names) xs)) ≡ false → AllByRecursion (λ x. replaced by x ≡ x) xs
  children_stay [] known h = tt
  children_stay (x ∷ xs) known h =
      let parts = none_of_both (is_changed sheet change) (areas home names x) (flat_map (λ areas. areas) (map (areas home names) xs)) h in
      (known.0 parts.0, children_stay xs known.1 parts.1)

  child_stays : (x y : Tree) (node : Tree → Tree) → areas home names y ≡ areas home names x → replaced by y ≡ node (replaced by x) → node x ≡ y → Stays x → Stays y
  child_stays x y node reads is same stays h = is ∙ ap node (stays (ap (list_any (is_changed sheet change)) (sym reads) ∙ h)) ∙ same

  pub tree_stays : (x : Tree) → Stays x
  tree_stays = tree_ind Stays (record {
    number = λ n _. replaced-Number by n;
    words = λ text _. replaced-Words by text;
    bad = λ fault _. replaced-Bad by fault;
    reference = λ r h. replaced-Ref by r ∙ reference_stays r (neither _ _ (ap (list_any (is_changed sheet change)) (sym (at-Ref _ (areas_step home names) r)) ∙ h)).0;
    name = λ name _. replaced-Name by name;
    call = λ name args known h. replaced-Call by name args ∙ ap (t.Call name) (map_same (replaced by) args (children_stay args known (ap (list_any (is_changed sheet change)) (sym (at-Call _ (areas_step home names) name args)) ∙ h)));
    paren = λ x. child_stays x (t.Paren x) t.Paren (at-Paren _ (areas_step home names) x) (replaced-Paren by x) refl;
    plus = λ x. child_stays x (t.Plus x) t.Plus (at-Plus _ (areas_step home names) x) (replaced-Plus by x) refl;
    minus = λ x. child_stays x (t.Minus x) t.Minus (at-Minus _ (areas_step home names) x) (replaced-Minus by x) refl;
    percent = λ x. child_stays x (t.Percent x) t.Percent (at-Percent _ (areas_step home names) x) (replaced-Percent by x) refl;
    binary = λ op x y left right h.
        let parts = none_of_both (is_changed sheet change) (areas home names x) (areas home names y) (ap (list_any (is_changed sheet change)) (sym (at-Binary _ (areas_step home names) op x y)) ∙ h) in
        replaced-Binary by op x y ∙ ap (λ z. t.Binary op z (replaced by y)) (left parts.0) ∙ ap (t.Binary op x) (right parts.1);
  })

pub insertion_stays : (home : Place) (names : Names) (sheet place count : ℕ) (x : Tree) → list_any (is_changed sheet (area_after_insertion place count)) (areas home names x) ≡ false → tree_after_insertion home sheet place count x ≡ x
insertion_stays home names sheet place count = tree_stays home names sheet (area_after_insertion place count) (insertion_goes place count)

pub deletion_stays : (home : Place) (names : Names) (sheet place count : ℕ) (x : Tree) → list_any (is_changed sheet (area_after_deletion place count)) (areas home names x) ≡ false → tree_after_deletion home sheet place count x ≡ x
deletion_stays home names sheet place count = tree_stays home names sheet (area_after_deletion place count) (deletion_goes place count)

-- The formulas that don't keep their codes are taken out, the rows go, and the formulas are put back as they become.
use Rattle.std.proofs.Common.{◌≡◌, ◌≤◌, ℕ, zero, suc, ◌<◌, Bool, true, ◌&&◌, List, [], ◌∷◌, length, take, inl, inr, refl, sym, ap, subst, ◌∙◌, arith}
use Rattle.std.specs.Prelude.{slice_index_or}
use Rattle.std.specs.List.{list_all}
use Rattle.std.proofs.lemmas.List.{length-map, take_all}
use Rattle.calc_addr.specs.Places.{Place}
use Rattle.calc_model.specs.declared.change.Change.{Change}
use Rattle.calc_model.specs.declared.content.Content.{Content}
use Rattle.calc_model.specs.declared.content.Content.TheVariants as content
use Rattle.calc_model.specs.declared.limits.TheConstants.{MOST_CELLS}
use Rattle.calc_model.specs.Books.{IsBook, content_at, is_cell_entry, is_content, is_formula, is_held, is_place}
use Rattle.calc_model.specs.CellEdits.{CellEntries, with_tree}
use Rattle.calc_model.specs.RowEdits.{shifted_entry}
use Rattle.calc_model.proofs.Areas.{both_true}
use Rattle.calc_model.proofs.EntriesKept.{both_so}
use Rattle.cell_columns.specs.Cells.{cells_only}
use Rattle.cell_columns.specs.Shifted.{AllKeepForms, AllKeepOrAre, AllStayIn, KeepsForm, shifted}
use Rattle.cell_columns.specs.Looks.{with_contents}
use Rattle.cell_columns.specs.Reset.{emptied, with_all}
use Rattle.kept_codes.specs.RowChanges.{StaysIn, goes, tree_after}
use Rattle.cell_columns.proofs.Listed.{all_hold}
use Rattle.cell_columns.proofs.Maps.{index_any}
use Rattle.cell_columns.proofs.Restored.{formula_held, found_held, part_few, restored, still_held}
use Rattle.cell_columns.proofs.SetShifted.{AllLeft, all_left_emptied, is_left, set_moved, stays_left}
use Rattle.cell_columns.proofs.Told.{entry_found, tested_place}

length-shifted : (change : Change) (es : CellEntries) → length (shifted change es) ≡ length es
unfolding shifted
length-shifted change es = length-map es (shifted_entry (goes change) (tree_after change))

content_held : (c : Content) → is_content c ≡ true → is_held c ≡ true
content_held content.Empty is = cc
content_held (content.Constant value) is = refl
content_held (content.Formula tree) is = refl
content_held (content.Raw text) is = refl

pub all_at : {X : Type 0} (test : X → Bool) (xs : List X) (i : ℕ) (x : X) → list_all test xs ≡ true → i < length xs → x ≡ slice_index_or xs i x → test x ≡ true
all_at {X = X} test xs i x all h is = ap test is ∙ at xs i all h
  where
    at : (xs : List X) (i : ℕ) → list_all test xs ≡ true → i < length xs → test (slice_index_or xs i x) ≡ true
    at [] i all h = absurd (omega (arith, h))
    at (y ∷ ys) zero all h = (both_true (test y) (list_all test ys) all).0
    at (y ∷ ys) (suc i) all h = at ys i (both_true (test y) (list_all test ys) all).1 (omega (arith, h))

-- the cell of a formula stays
pub formula_stays : (change : Change) (es : CellEntries) → IsBook (cells_only es) → AllStayIn change es → (q : Place) → is_formula (content_at (cells_only es) q) ≡ true → StaysIn change q
formula_stays change es book stay q formula =
    let held = formula_held (content_at (cells_only es) q) formula in
    stay q (tested_place q (entry_found es book.cells_held q (content_at (cells_only es) q) (found_held es q held)).0) held

front : (change : Change) (es : CellEntries) (k : ℕ) (cells : List Place) → take k (shifted change (with_contents es cells)) ≡ shifted change (with_contents es (take k cells))
unfolding shifted
front change es zero cells = refl
front change es (suc k) [] = refl
front change es (suc k) (q ∷ cells) = ap (λ (rest : CellEntries). (goes change q, with_tree (tree_after change q) (content_at (cells_only es) q)) ∷ rest) (front change es k cells)

all_from : {X : Type 0} (test : X → Bool) (xs : List X) → ((k : ℕ) (d : X) → k < length xs → test (slice_index_or xs k d) ≡ true) → list_all test xs ≡ true
all_from test [] each = refl
all_from test (x ∷ xs) each = both_so _ _ (each 0 x (omega arith)) (all_from test xs (λ k d h. each (suc k) d (omega (arith, h))))

module _ (change : Change) (es : CellEntries) (book : IsBook (cells_only es)) (stay : AllStayIn change es) where
  all_left : AllLeft change es
  all_left = all_from (λ e. is_left change e.0 && is_held e.1) es left
    where
      left : (k : ℕ) (d : Place × Content) → k < length es → (is_left change (slice_index_or es k d).0 && is_held (slice_index_or es k d).1) ≡ true
      left k d h =
          let e : Place × Content = slice_index_or es k d in
          let found : content_at (cells_only es) e.0 ≡ e.1 = all_hold es book.cells_in_order k d h in
          let entry = both_true (is_place e.0) (is_content e.1) (all_at is_cell_entry es k e book.cells_held h (index_any es k d e h)) in
          let held : is_held e.1 ≡ true = content_held e.1 entry.1 in
          both_so _ _ (stays_left change e.0 (stay e.0 (tested_place e.0 entry.0) (ap is_held found ∙ held))) held

  module _ (cells : List Place) (formulas : list_all (λ q. is_formula (content_at (cells_only es) q)) cells ≡ true) where
    formulas_left : (k : ℕ) → AllLeft change (with_contents es (take k cells))
    formulas_left k = each k cells formulas
      where
        each : (k : ℕ) (cells : List Place) → list_all (λ q. is_formula (content_at (cells_only es) q)) cells ≡ true → AllLeft change (with_contents es (take k cells))
        each zero cells all = refl
        each (suc k) [] all = refl
        each (suc k) (q ∷ cells) all =
            let parts = both_true (is_formula (content_at (cells_only es) q)) (list_all (λ q. is_formula (content_at (cells_only es) q)) cells) all in
            both_so _ _ (both_so _ _ (stays_left change q (formula_stays change es book stay q parts.0)) (formula_held (content_at (cells_only es) q) parts.0)) (each k cells parts.1)

    put_back : (k : ℕ) → with_all (shifted change (emptied es cells)) (shifted change (with_contents es (take k cells))) ≡ shifted change (with_all (emptied es cells) (with_contents es (take k cells)))
    put_back k = sym (set_moved change (with_contents es (take k cells)) (emptied es cells) (formulas_left k) (all_left_emptied change cells es all_left))

    -- the formulas that are put back, as they become, are those that were taken out
    pub all_back : with_all (shifted change (emptied es cells)) (shifted change (with_contents es cells)) ≡ shifted change es
    all_back =
        subst (λ (qs : List Place). with_all (shifted change (emptied es cells)) (shifted change (with_contents es qs)) ≡ shifted change (with_all (emptied es cells) (with_contents es qs))) (take_all (length cells) cells (omega arith)) (put_back (length cells))
        ∙ ap (shifted change) (restored es book.cells_in_order cells formulas)

    -- there is room for those
    pub back_few : (k : ℕ) → length (with_all (shifted change (emptied es cells)) (take k (shifted change (with_contents es cells)))) ≤ MOST_CELLS
    back_few k =
        omega (arith, ap (λ (es : CellEntries). length es) (ap (with_all (shifted change (emptied es cells))) (front change es k cells) ∙ put_back k), length-shifted change (with_all (emptied es cells) (with_contents es (take k cells))), part_few es book.cells_in_order cells formulas k, book.cells_in_limit)

    -- the others stay in their sheet
    pub others_stay : AllStayIn change (emptied es cells)
    others_stay q is held =
        let was = still_held es book.cells_in_order cells formulas q held in
        stay q is (ap is_held (sym was.0) ∙ held)

    -- and keep their forms
    pub others_keep : AllKeepOrAre change es cells → AllKeepForms change (emptied es cells)
    others_keep all q is tree here =
        let was = still_held es book.cells_in_order cells formulas q (ap is_held here) in
        elim (all q is tree (sym was.0 ∙ here)) as (λ _. KeepsForm change q tree) [
          | inl keeps ↦ keeps
          | inr there ↦ absurd (was.1 there)
        ]

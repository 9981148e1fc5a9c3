-- Areas meet exactly where one of them has a cell of the other, and a hull has the areas of all rows.
use Rattle.std.proofs.Common.{◌≡◌, ℕ, ◌≤◌, Bool, true, false, max, refl, sym, arith}
use Rattle.std.specs.List.{Contains, list_any}
use Rattle.std.proofs.lemmas.Bool.Decides.{nat_tests}
use Rattle.std.proofs.lemmas.List.Folds.{Any-from_list_any, list_any-from_Any}
use Rattle.calc_addr.specs.Places.{IsRectangle, Place, Rectangle, covers, places}
use Rattle.calc_addr.proofs.Walking.Places.{Contains-places, covers-contained}
use Rattle.calc_model.proofs.Areas.{inside}
use Rattle.calc_model.specs.Ears.{ReadArea, area_at}
use Rattle.ears.specs.RunAreas.{LieInSheet, meets}

pub both_ways : (a b : Bool) → (a ≡ true → b ≡ true) → (b ≡ true → a ≡ true) → a ≡ b
both_ways true b f g = sym (f refl)
both_ways false true f g = g refl
both_ways false false f g = refl

overlapping : (a b : Rectangle) {s : ℕ} → s ≡ a.sheet → s ≡ b.sheet → a.first_col ≤ b.last_col → b.first_col ≤ a.last_col → a.first_row ≤ b.last_row → b.first_row ≤ a.last_row → meets a b ≡ true
overlapping a b e f c d g h = grind (arith, nat_tests)

shared : (a b : Rectangle) (p : Place) → covers a p ≡ true → covers b p ≡ true → meets a b ≡ true
shared a b p h k =
    let in_a = inside a p h in
    let in_b = inside b p k in
    overlapping a b (in_a.same_sheet) (in_b.same_sheet) (omega arith) (omega arith) (omega arith) (omega arith)

-- the first cell, in area order, that two areas that meet share
corner_of : Rectangle → Rectangle → Place
corner_of a b = record { sheet = a.sheet; col = max a.first_col b.first_col; row = max a.first_row b.first_row }

covers_corner : (a b : Rectangle) → IsRectangle a → meets a b ≡ true → covers a (corner_of a b) ≡ true
unfolding corner_of
covers_corner a b h m = grind (arith, nat_tests)

corner_covered : (a b : Rectangle) → IsRectangle b → meets a b ≡ true → covers b (corner_of a b) ≡ true
unfolding corner_of
corner_covered a b h m = grind (arith, nat_tests)

pub meets-covers : (a b : Rectangle) → IsRectangle a → IsRectangle b → list_any (covers a) (places b) ≡ meets a b
meets-covers a b ha hb =
    both_ways _ _
    (λ h.
    let at = Any-from_list_any (covers a) (places b) h in
    shared a b at.1 at.4 (covers-contained b at.1 (at.0, at.2, at.3)))
    (λ h.
    let at : Contains (places b) (corner_of a b) = Contains-places b (corner_of a b) (corner_covered a b hb h) in
    list_any-from_Any (covers a) (places b) (at.0, corner_of a b, at.1, at.2, covers_corner a b ha h))

pub inside_hull : (ear : ReadArea) (steps step : ℕ) → LieInSheet steps ear → step ≤ steps → IsRectangle (area_at ear step)
inside_hull ear steps step h le = record {
  sheet_in = h.first.sheet_in;
  cols_from = h.first.cols_from;
  cols_in_order = h.first.cols_in_order;
  cols_to = h.first.cols_to;
  rows_from = grind (arith, nat_tests, h.first.rows_from);
  rows_in_order = grind (arith, nat_tests, h.first.rows_in_order, h.last.rows_in_order);
  rows_to = grind (arith, nat_tests, h.first.rows_to, h.last.rows_to);
}

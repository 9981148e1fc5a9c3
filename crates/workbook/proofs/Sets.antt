-- Sets of cells: one more cell, and cells of an area.
use Rattle.std.proofs.Common.{◌≡◌, Bool, true, false, not, ◌||◌, cond, List, [], ◌∷◌, refl, sym, ap, ◌∙◌, subst, arith}
use Rattle.std.proofs.lemmas.Bool.{both_ways, not-true, or_parts}
use Rattle.std.proofs.lemmas.Bool.Decides.{nat_tests}
use Rattle.std.specs.List.{list_any}
use Rattle.std.specs.Ordering.{eq_by_cmp, is_eq, match_ordering}
use Rattle.std.specs.declared.cmp.Ordering.TheVariants.{Less, Equal, Greater}
use Rattle.std.specs.BTreeMap.{is_at}
use Rattle.std.specs.BTreeSet.{insert_key}
use Rattle.std.specs.Set.{remove_key}
use Rattle.calc_addr.specs.Places.{Place, Rectangle, corner, covers, place_cmp}
use Rattle.calc_model.proofs.Places.{same_places}
use Rattle.calc_model.proofs.Reached.{or_true, same_cell}
use Rattle.workbook.proofs.Tests.{same_tests}
use Rattle.workbook.specs.Touched.{Parts, contains_cell}

-- a new cell that is taken out again leaves the cells as they were
key_taken_back : (cells : List Place) (cell : Place) → contains_cell cells cell ≡ false → remove_key (is_at (place_cmp cell)) (insert_key place_cmp cells cell) ≡ cells
key_taken_back [] cell absent = ap (λ b. cond b [] (cell ∷ [])) (same_cell cell)
key_taken_back (x ∷ xs) cell absent =
    let parts = or_parts (eq_by_cmp place_cmp cell x) (contains_cell xs cell) absent in
    elim (place_cmp cell x) as (λ o. place_cmp cell x ≡ o → remove_key (is_at (place_cmp cell)) (match_ordering o (cell ∷ x ∷ xs) (x ∷ xs) (x ∷ insert_key place_cmp xs cell)) ≡ x ∷ xs) [
      | Less ↦ λ below. ap (λ b. cond b (x ∷ xs) (cell ∷ remove_key (is_at (place_cmp cell)) (x ∷ xs))) (same_cell cell)
      | Equal ↦ λ same. absurd (both_ways _ parts.0 (ap is_eq same))
      | Greater ↦ λ above. ap (λ b. cond b (insert_key place_cmp xs cell) (x ∷ remove_key (is_at (place_cmp cell)) (insert_key place_cmp xs cell))) parts.0 ∙ ap (λ rest. x ∷ rest) (key_taken_back xs cell parts.1)
    ] refl

pub taken_back : (old more back : Parts) (cell : Place) → more ≡ record old { cells = insert_key place_cmp old.cells cell } → back ≡ record more { cells = remove_key (is_at (place_cmp cell)) more.cells } → true ≡ not (contains_cell old.cells cell) → back ≡ old
taken_back old more back cell added removed new =
    removed ∙ ap (λ (p : Parts). record p { cells = remove_key (is_at (place_cmp cell)) p.cells }) added
    ∙ ap (λ cells. record old { cells = cells }) (key_taken_back old.cells cell (not-true _ (sym new)))

pub one_more_cell : (all old areas same : Bool) → (all || cond same true old || areas) ≡ ((all || old || areas) || same)
one_more_cell true old areas same = refl
one_more_cell false old areas true = sym (or_true (old || areas))
one_more_cell false true areas false = refl
one_more_cell false false true false = refl
one_more_cell false false false false = refl

pub one_more_area : (all cells old new : Bool) → (all || cells || (old || (new || false))) ≡ ((all || cells || old) || new)
one_more_area true cells old new = refl
one_more_area false true old new = refl
one_more_area false false true new = refl
one_more_area false false false true = refl
one_more_area false false false false = refl

pub ruleset more = (one_more_cell, one_more_area)

-- an area of one column and one row has its corner alone
pub one_cell : (area : Rectangle) → area.first_col ≡ area.last_col → area.first_row ≡ area.last_row → (q : Place) → covers area q ≡ eq_by_cmp place_cmp (corner area) q
one_cell area col row q = same_tests _ _ (λ inside. grind (arith, nat_tests)) (λ same. subst (λ p. covers area p ≡ true) (same_places (corner area) q same) (corner_inside refl))
  where
    corner_inside : area ≡ area → covers area (corner area) ≡ true
    corner_inside same = grind (arith, nat_tests)

-- one of two tests, in an area
pub list_any-or : {X : Type 0} (f g : X → Bool) (xs : List X) → list_any (λ x. f x || g x) xs ≡ (list_any f xs || list_any g xs)
list_any-or f g [] = refl
list_any-or f g (x ∷ xs) = ap (λ rest. (f x || g x) || rest) (list_any-or f g xs) ∙ shuffled (f x) (g x) (list_any f xs) (list_any g xs)
  where
    shuffled : (a b c d : Bool) → ((a || b) || (c || d)) ≡ ((a || c) || (b || d))
    shuffled true b c d = refl
    shuffled false true c d = sym (or_true c)
    shuffled false false c d = refl

-- Where the cells of a hub end after rows were inserted or deleted.
use Rattle.std.proofs.Common.{◌≡◌, ℕ, ◌+◌, ◌-◌, ◌≤◌, ◌<◌, true, false, cond, ◌&&◌, nat_le, nat_lt, Some, None, ap, ◌∙◌, ⊎_elim, arith}
use Rattle.std.specs.Prelude.{◌==◌, option_map}
use Rattle.std.proofs.lemmas.Bool.{cases_Bool}
use Rattle.std.proofs.lemmas.Bool.Decides.{nat_tests}
use Rattle.calc_addr.specs.Places.{Place}
use Rattle.calc_addr.specs.Shifts.{is_deleted, row_after_deletion}
use Rattle.calc_model.specs.RowEdits.{is_in_rows}
use Rattle.calc_model.specs.Listeners.{ReadAreas}
use Rattle.ears.specs.RowEdits.{areas_after, place_after}
use Rattle.listener_hub.specs.Moves.{IsMoved, deletion, insertion}

module _ (sheet place count bottom : ℕ) (old new : ReadAreas) (some : 1 ≤ count) (low : place ≤ bottom) (ends : (q : Place) → bottom < q.row → old q ≡ None) where
  nothing : (edit_areas : _) (q d : Place) → bottom < q.row → new d ≡ option_map edit_areas (old q) → new d ≡ None
  nothing edit_areas q d h is = is ∙ ap (option_map edit_areas) (ends q h)

  pub inserted : IsMoved (insertion sheet place count) old new → (d : Place) → bottom + count < d.row → new d ≡ None
  inserted moved d h =
      ⊎_elim
      (λ (e : (d.sheet == sheet) ≡ true).
      let q : Place = record d { row = d.row - count } in
      let row : cond (nat_le place (d.row - count)) (d.row - count + count) (d.row - count) ≡ d.row = goes_down place count bottom d.row low h in
      let goes : place_after (insertion sheet place count) q ≡ Some d =
      ap (λ b. Some (cond b (record d { row = cond (nat_le place (d.row - count)) (d.row - count + count) (d.row - count) }) q)) e
      ∙ ap (λ r. Some (record d { row = r })) row in
      nothing (areas_after (insertion sheet place count)) q d (omega (arith, h)) (moved.here q d goes))
      (λ (e : (d.sheet == sheet) ≡ false).
      nothing (areas_after (insertion sheet place count)) d d (omega (arith, h)) (moved.here d d (ap (λ b. Some (cond b (record d { row = cond (nat_le place d.row) (d.row + count) d.row }) d)) e)))
      (cases_Bool (d.sheet == sheet))
    where
      goes_down : (place count bottom row : ℕ) → place ≤ bottom → bottom + count < row → cond (nat_le place (row - count)) (row - count + count) (row - count) ≡ row
      goes_down place count bottom row a b =
          let test : nat_le place (row - count) ≡ true = under place count bottom row a b in
          ap (λ t. cond t (row - count + count) (row - count)) test ∙ omega (arith, b)
        where
          under : (place count bottom row : ℕ) → place ≤ bottom → bottom + count < row → nat_le place (row - count) ≡ true
          under place count bottom row a b = grind (arith, nat_tests)

  pub deleted : IsMoved (deletion sheet place count) old new → (d : Place) → bottom < d.row → new d ≡ None
  deleted moved d h =
      ⊎_elim
      (λ (e : (d.sheet == sheet) ≡ true).
      let q : Place = record d { row = d.row + count } in
      let stays : is_in_rows sheet place count q ≡ false = ap (λ b. b && is_deleted place count (d.row + count)) e ∙ behind place count bottom d.row low h in
      let row : row_after_deletion place count (d.row + count) ≡ d.row = comes_up place count bottom d.row low h in
      let goes : place_after (deletion sheet place count) q ≡ Some d =
      ap (λ b. cond b None (Some (cond (d.sheet == sheet) (record d { row = row_after_deletion place count (d.row + count) }) q))) stays
      ∙ ap (λ b. Some (cond b (record d { row = row_after_deletion place count (d.row + count) }) q)) e
      ∙ ap (λ r. Some (record d { row = r })) row in
      nothing (areas_after (deletion sheet place count)) q d (omega (arith, h)) (moved.here q d goes))
      (λ (e : (d.sheet == sheet) ≡ false).
      let goes : place_after (deletion sheet place count) d ≡ Some d =
      ap (λ b. cond (b && is_deleted place count d.row) None (Some (cond b (record d { row = row_after_deletion place count d.row }) d))) e in
      nothing (areas_after (deletion sheet place count)) d d h (moved.here d d goes))
      (cases_Bool (d.sheet == sheet))
    where
      behind : (place count bottom row : ℕ) → place ≤ bottom → bottom < row → is_deleted place count (row + count) ≡ false
      behind place count bottom row a b = grind (arith, nat_tests)

      comes_up : (place count bottom row : ℕ) → place ≤ bottom → bottom < row → row_after_deletion place count (row + count) ≡ row
      comes_up place count bottom row a b =
          let test : nat_lt (row + count) place ≡ false = not_above place count bottom row a b in
          ap (λ t. cond t (row + count) (row + count - count)) test ∙ omega arith
        where
          not_above : (place count bottom row : ℕ) → place ≤ bottom → bottom < row → nat_lt (row + count) place ≡ false
          not_above place count bottom row a b = grind (arith, nat_tests)

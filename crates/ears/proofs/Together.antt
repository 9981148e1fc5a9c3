-- Rows whose ends stay on one side of each border have areas that go together.
use Rattle.std.proofs.Common.{◌≡◌, ℕ, ◌+◌, ◌-◌, ◌≤◌, Bool, true, false, not, cond, ◌&&◌, min, nat_le, nat_lt, Some, None, refl, sym, subst, ap, ◌∙◌, arith}
use Rattle.std.specs.Prelude.{◌==◌, option_map}
use Rattle.std.proofs.lemmas.Bool.Decides.{nat_tests}
use Rattle.calc_addr.specs.declared.cell.TheConstants.{LAST_ROW}
use Rattle.calc_addr.specs.Places.{Rectangle}
use Rattle.calc_addr.specs.Shifts.{area_after_deletion, area_after_insertion, has_all_rows, is_deleted, row_after_deletion, row_after_insertion, with_rows}
use Rattle.calc_model.specs.Ears.{ReadArea, area_at, end_at}
use Rattle.ears.specs.declared.row_edit.Change.{Change}
use Rattle.ears.specs.declared.row_edit.Change.TheVariants.{Insertion, Deletion}
use Rattle.ears.specs.declared.row_edit.RowEdit.{RowEdit}
use Rattle.ears.specs.Limits.{limit, second_border, whole_on_sheet}
use Rattle.ears.specs.RowEdits.{GoTogether, IsRowEdit, area_by, with_area}
use Rattle.ears.specs.RunAreas.{LieInSheet}
use Rattle.ears.proofs.Meetings.{inside_hull}

-- the end stays on its side of the border
abbrev pub Stays : Bool → ℕ → ℕ → ℕ → Type 0
Stays moves row step border = nat_lt row border ≡ nat_lt (end_at moves row step) border

pub limit-stays : (moves : Bool) (row border steps step : ℕ) → step ≤ limit moves row border steps → Stays moves row step border
limit-stays true row border steps step le = grind (arith, nat_tests)
limit-stays false row border steps step le = refl

pub limit_within : (moves : Bool) (row border steps : ℕ) → limit moves row border steps ≤ steps
limit_within true row border steps = grind (arith, nat_tests)
limit_within false row border steps = omega arith

-- the ends that have all rows
module _ (last step : ℕ) where
  first_end : (moves : Bool) (row : ℕ) → 1 ≤ row → Stays moves row step 2 → (end_at moves row step == 1) ≡ (row == 1)
  first_end true row from stays = grind (arith, nat_tests)
  first_end false row from stays = refl

  last_end : (moves : Bool) (row : ℕ) → row ≤ last → end_at moves row step ≤ last → Stays moves row step last → (end_at moves row step == last) ≡ (row == last)
  last_end true row to to_step stays = grind (arith, nat_tests)
  last_end false row to to_step stays = refl

  -- an end that has all rows and moves is that of one row alone
  first_whole : (moves b : Bool) (row : ℕ) → (row == 1) ≡ true → Stays moves row step 2 → end_at moves row step ≡ end_at (moves && b) row step
  first_whole true true row is stays = refl
  first_whole true false row is stays = grind (arith, nat_tests)
  first_whole false b row is stays = refl

  last_whole : (moves b : Bool) (row : ℕ) → (row == last) ≡ true → end_at moves row step ≤ last → end_at moves row step ≡ end_at (moves && b) row step
  last_whole true true row is to = refl
  last_whole true false row is to = grind (arith, nat_tests)
  last_whole false b row is to = refl

-- the ends of an area when rows are inserted
module _ (last place count step : ℕ) where
  first_inserted : (moves : Bool) (row : ℕ) → Stays moves row step place → row_after_insertion place count (end_at moves row step) ≡ end_at (moves && true) (row_after_insertion place count row) step
  first_inserted true row stays = grind (arith, nat_tests)
  first_inserted false row stays = refl

  first_kept : (moves : Bool) (row : ℕ) → place + count ≤ last + 1 → Stays moves row step place → Stays moves row step (last + 1 - count) → nat_le (row_after_insertion place count (end_at moves row step)) last ≡ nat_le (row_after_insertion place count row) last
  first_kept true row to stays past = grind (arith, nat_tests)
  first_kept false row to stays past = refl

  last_inserted : (moves : Bool) (row : ℕ) → place + count ≤ last + 1 → Stays moves row step place → Stays moves row step (last + 1 - count) → end_at moves row step ≤ last
      → min (row_after_insertion place count (end_at moves row step)) last ≡ end_at (moves && nat_le (row_after_insertion place count row) last) (min (row_after_insertion place count row) last) step
  last_inserted true row to stays past inside = grind (arith, nat_tests)
  last_inserted false row to stays past inside = refl

-- the ends of an area when rows are deleted
module _ (place count step : ℕ) where
  deleted_same : (moves : Bool) (row : ℕ) → Stays moves row step place → Stays moves row step (place + count) → is_deleted place count (end_at moves row step) ≡ is_deleted place count row
  deleted_same true row stays past = grind (arith, nat_tests)
  deleted_same false row stays past = refl

  end_deleted : (moves : Bool) (row to : ℕ) → Stays moves row step place → Stays moves row step (place + count)
      → cond (is_deleted place count (end_at moves row step)) to (row_after_deletion place count (end_at moves row step)) ≡ end_at (moves && not (is_deleted place count row)) (cond (is_deleted place count row) to (row_after_deletion place count row)) step
  end_deleted true row to stays past = grind (arith, nat_tests)
  end_deleted false row to stays past = refl

same_rows : (a : Rectangle) {f g l m : ℕ} → f ≡ g → l ≡ m → with_rows a f l ≡ with_rows a g m
same_rows a {f} {g} {l} {m} h k = ap (λ r. with_rows a r l) h ∙ ap (λ r. with_rows a g r) k

both_same : {b c d e : Bool} → b ≡ c → d ≡ e → (b && d) ≡ (c && e)
both_same {b} {c} {d} {e} h k = ap (λ x. x && d) h ∙ ap (λ x. c && x) k

both_true : (b c : Bool) → (b && c) ≡ true → (b ≡ true) × (c ≡ true)
both_true true c h = (refl, h)
both_true false c h = cc

-- an area that stays, is kept with other rows, or is deleted, and what the ear of rows that go with it says
goes : (all keeps : Bool) (x y u v : Rectangle) (ear : Rectangle → ReadArea) (step : ℕ) → (all ≡ true → u ≡ area_at (ear x) step) → v ≡ area_at (ear y) step
    → cond all (Some u) (cond keeps (Some v) None) ≡ option_map (λ e. area_at e step) (option_map ear (cond all (Some x) (cond keeps (Some y) None)))
goes true keeps x y u v ear step whole kept = ap Some (whole refl)
goes false true x y u v ear step whole kept = ap Some kept
goes false false x y u v ear step whole kept = refl

turned : {A : Type 0} (b : Bool) (x y : A) → cond b x y ≡ cond (not b) y x
turned true x y = refl
turned false x y = refl

-- the ends of the areas of two rows stay on their sides of all borders
pub record AllStay (change : Change) (place count : ℕ) (ear : ReadArea) (step : ℕ) : Type 0 where
  pub first_two : Stays ear.first_moves ear.area.first_row step 2
  pub first_place : Stays ear.first_moves ear.area.first_row step place
  pub first_border : Stays ear.first_moves ear.area.first_row step (second_border change place count)
  pub last_place : Stays ear.last_moves ear.area.last_row step place
  pub last_border : Stays ear.last_moves ear.area.last_row step (second_border change place count)
  pub last_last : Stays ear.last_moves ear.area.last_row step LAST_ROW

module _ (place count step : ℕ) (ear : ReadArea) (from : 1 ≤ ear.area.first_row) (to : ear.area.last_row ≤ LAST_ROW) (to_step : end_at ear.last_moves ear.area.last_row step ≤ LAST_ROW) where
  all_same : (change : Change) → AllStay change place count ear step → has_all_rows (area_at ear step) ≡ has_all_rows ear.area
  all_same change stay = both_same (first_end LAST_ROW step ear.first_moves ear.area.first_row from stay.first_two) (last_end LAST_ROW step ear.last_moves ear.area.last_row to to_step stay.last_last)

  whole_same : (change : Change) (b c : Bool) → AllStay change place count ear step → has_all_rows ear.area ≡ true
      → area_at ear step ≡ area_at (record { area = ear.area; first_moves = ear.first_moves && b; last_moves = ear.last_moves && c }) step
  whole_same change b c stay all =
      let rows = both_true _ _ all in
      same_rows ear.area (first_whole LAST_ROW step ear.first_moves b ear.area.first_row rows.0 stay.first_two) (last_whole LAST_ROW step ear.last_moves c ear.area.last_row rows.1 to_step)

  inserted : place + count ≤ LAST_ROW + 1 → AllStay Insertion place count ear step
      → area_after_insertion place count (area_at ear step) ≡ option_map (λ e. area_at e step) (option_map (with_area Insertion place count ear) (area_after_insertion place count ear.area))
  inserted in_sheet stay =
      let f : ℕ = row_after_insertion place count ear.area.first_row in
      let l : ℕ = min (row_after_insertion place count ear.area.last_row) LAST_ROW in
      let g : ℕ = row_after_insertion place count (end_at ear.first_moves ear.area.first_row step) in
      let m : ℕ = min (row_after_insertion place count (end_at ear.last_moves ear.area.last_row step)) LAST_ROW in
      ap (λ b. cond b (Some (area_at ear step)) (cond (nat_le g LAST_ROW) (Some (with_rows ear.area g m)) None)) (all_same Insertion stay)
      ∙ ap (λ b. cond (has_all_rows ear.area) (Some (area_at ear step)) (cond b (Some (with_rows ear.area g m)) None)) (first_kept LAST_ROW place count step ear.first_moves ear.area.first_row in_sheet stay.first_place stay.first_border)
      ∙ goes (has_all_rows ear.area) (nat_le f LAST_ROW) ear.area (with_rows ear.area f l) (area_at ear step) (with_rows ear.area g m) (with_area Insertion place count ear) step
      (whole_same Insertion true (nat_le (row_after_insertion place count ear.area.last_row) LAST_ROW) stay)
      (same_rows ear.area (first_inserted LAST_ROW place count step ear.first_moves ear.area.first_row stay.first_place)
      (last_inserted LAST_ROW place count step ear.last_moves ear.area.last_row in_sheet stay.last_place stay.last_border to_step))

  deleted : AllStay Deletion place count ear step
      → area_after_deletion place count (area_at ear step) ≡ option_map (λ e. area_at e step) (option_map (with_area Deletion place count ear) (area_after_deletion place count ear.area))
  deleted stay =
      let gone : ℕ → Bool = is_deleted place count in
      let f : ℕ = cond (gone ear.area.first_row) place (row_after_deletion place count ear.area.first_row) in
      let l : ℕ = cond (gone ear.area.last_row) (place - 1) (row_after_deletion place count ear.area.last_row) in
      let row : ℕ = end_at ear.first_moves ear.area.first_row step in
      let row_last : ℕ = end_at ear.last_moves ear.area.last_row step in
      let g : ℕ = cond (gone row) place (row_after_deletion place count row) in
      let m : ℕ = cond (gone row_last) (place - 1) (row_after_deletion place count row_last) in
      let both : Bool = gone ear.area.first_row && gone ear.area.last_row in
      ap (λ b. cond b (Some (area_at ear step)) (cond (gone row && gone row_last) None (Some (with_rows ear.area g m)))) (all_same Deletion stay)
      ∙ ap (λ b. cond (has_all_rows ear.area) (Some (area_at ear step)) (cond b None (Some (with_rows ear.area g m))))
      (both_same (deleted_same place count step ear.first_moves ear.area.first_row stay.first_place stay.first_border) (deleted_same place count step ear.last_moves ear.area.last_row stay.last_place stay.last_border))
      ∙ ap (λ o. cond (has_all_rows ear.area) (Some (area_at ear step)) o) (turned both None (Some (with_rows ear.area g m)))
      ∙ goes (has_all_rows ear.area) (not both) ear.area (with_rows ear.area f l) (area_at ear step) (with_rows ear.area g m) (with_area Deletion place count ear) step
      (whole_same Deletion (not (gone ear.area.first_row)) (not (gone ear.area.last_row)) stay)
      (same_rows ear.area (end_deleted place count step ear.first_moves ear.area.first_row place stay.first_place stay.first_border)
      (end_deleted place count step ear.last_moves ear.area.last_row (place - 1) stay.last_place stay.last_border))
      ∙ ap (λ o. option_map (λ e. area_at e step) (option_map (with_area Deletion place count ear) (cond (has_all_rows ear.area) (Some ear.area) o))) (sym (turned both None (Some (with_rows ear.area f l))))

together_by : (change : Change) (place count step steps : ℕ) (ear : ReadArea) → place + count ≤ LAST_ROW + 1 → LieInSheet steps ear → step ≤ steps → AllStay change place count ear step
    → area_by change place count (area_at ear step) ≡ option_map (λ e. area_at e step) (option_map (with_area change place count ear) (area_by change place count ear.area))
together_by Insertion place count step steps ear to run le stay = inserted place count step ear run.first.rows_from run.first.rows_to (inside_hull ear steps step run le).rows_to to stay
together_by Deletion place count step steps ear to run le stay = deleted place count step ear run.first.rows_from run.first.rows_to (inside_hull ear steps step run le).rows_to stay

le_trans : (a b c : ℕ) → a ≤ b → b ≤ c → a ≤ c
le_trans a b c h k = omega arith

-- the rows to the one at which the first end crosses a border go together
module _ (edit : RowEdit) (ear : ReadArea) (steps : ℕ) where
  all_stay : (step : ℕ) → step ≤ whole_on_sheet edit ear steps → (step ≤ steps) × AllStay edit.change edit.place edit.count ear step
  all_stay step le =
      let first : ℕ → ℕ → ℕ = λ at whole. limit ear.first_moves ear.area.first_row at whole in
      let last : ℕ → ℕ → ℕ = λ at whole. limit ear.last_moves ear.area.last_row at whole in
      let border : ℕ = second_border edit.change edit.place edit.count in
      let x1 : ℕ = first 2 steps in
      let x2 : ℕ = first edit.place x1 in
      let x3 : ℕ = first border x2 in
      let x4 : ℕ = last edit.place x3 in
      let x5 : ℕ = last border x4 in
      let in_5 : step ≤ x5 = le_trans step _ x5 le (limit_within ear.last_moves ear.area.last_row LAST_ROW x5) in
      let in_4 : step ≤ x4 = le_trans step x5 x4 in_5 (limit_within ear.last_moves ear.area.last_row border x4) in
      let in_3 : step ≤ x3 = le_trans step x4 x3 in_4 (limit_within ear.last_moves ear.area.last_row edit.place x3) in
      let in_2 : step ≤ x2 = le_trans step x3 x2 in_3 (limit_within ear.first_moves ear.area.first_row border x2) in
      let in_1 : step ≤ x1 = le_trans step x2 x1 in_2 (limit_within ear.first_moves ear.area.first_row edit.place x1) in (
        le_trans step x1 steps in_1 (limit_within ear.first_moves ear.area.first_row 2 steps),
        record {
          first_two = limit-stays ear.first_moves ear.area.first_row 2 steps step in_1;
          first_place = limit-stays ear.first_moves ear.area.first_row edit.place x1 step in_2;
          first_border = limit-stays ear.first_moves ear.area.first_row border x2 step in_3;
          last_place = limit-stays ear.last_moves ear.area.last_row edit.place x3 step in_4;
          last_border = limit-stays ear.last_moves ear.area.last_row border x4 step in_5;
          last_last = limit-stays ear.last_moves ear.area.last_row LAST_ROW x5 step le;
        },
      )

  pub whole_within : whole_on_sheet edit ear steps ≤ steps
  whole_within = (all_stay (whole_on_sheet edit ear steps) (omega arith)).0

  pub go_together : IsRowEdit edit → LieInSheet steps ear → (ear.area.sheet == edit.sheet) ≡ true → GoTogether edit ear (whole_on_sheet edit ear steps)
  go_together shift run here step le =
      let stay = all_stay step le in
      subst (λ b. cond b (area_by edit.change edit.place edit.count (area_at ear step)) (Some (area_at ear step)) ≡ option_map (λ e. area_at e step) (cond b (option_map (with_area edit.change edit.place edit.count ear) (area_by edit.change edit.place edit.count ear.area)) (Some ear)))
      (sym here) (together_by edit.change edit.place edit.count step steps ear shift.to run stay.0 stay.1)

  pub others_stay : (ear.area.sheet == edit.sheet) ≡ false → GoTogether edit ear steps
  others_stay elsewhere step le =
      subst (λ b. cond b (area_by edit.change edit.place edit.count (area_at ear step)) (Some (area_at ear step)) ≡ option_map (λ e. area_at e step) (cond b (option_map (with_area edit.change edit.place edit.count ear) (area_by edit.change edit.place edit.count ear.area)) (Some ear)))
      (sym elsewhere) refl

-- Listeners that are told stand where a walk looks for them.
use Rattle.std.proofs.Common.{◌≡◌, ℕ, ◌+◌, ◌-◌, ◌*◌, ◌/◌, ◌%◌, ◌≤◌, ◌<◌, Bool, true, false, cond, ◌&&◌, ◌||◌, nat_lt, List, [], ◌∷◌, refl, sym, ap, subst, ◌∙◌, eq-eqb, arith}
use Rattle.std.specs.Prelude.{◌==◌}
use Rattle.std.specs.List.{All, list_any}
use Rattle.std.proofs.lemmas.Bool.{and_from, and_parts, eqb-true, false≢true, leb-true, ltb-true}
use Rattle.std.proofs.lemmas.Bool.Decides.{nat_tests}
use Rattle.std.proofs.lemmas.List.Elements.{All-head, All-tail}
use Rattle.calc_addr.specs.Places.{IsRectangle, Rectangle}
use Rattle.ears.specs.RunAreas.{meets}
use Rattle.ears.proofs.Meetings.{both_ways}
use Rattle.area_listeners.specs.declared.spot.Spot.{Spot}
use Rattle.area_listeners.specs.declared.gathering.Window.{Window}
use Rattle.area_listeners.specs.Spots.{IsPlaced, area_of, class_of, height, is_between, is_met, is_met_in, is_narrow, level_of, window_of}
use Rattle.area_listeners.proofs.Between.{class_between, is_inside}
use Rattle.area_listeners.proofs.Levels.{tall_enough}

even : (n : ℕ) → (2 * n + 0) % 2 ≡ 0
even n = omega arith

odd : (n : ℕ) → (2 * n + 1) % 2 ≡ 1
odd n = omega arith

half : (n k : ℕ) → k ≤ 1 → (2 * n + k) / 2 ≡ n
half n k h = omega arith

-- Where the area of a class stands that has a cell of the area.
record IsWithin (w : Window) (s : Spot) : Type 0 where
  sheet : s.sheet ≡ w.sheet
  left : w.left ≤ s.column
  right : s.column ≤ w.right
  first : w.first ≤ s.first_row
  end : s.first_row < w.end

one_or_none : (b : Bool) → cond b 0 1 ≤ 1
one_or_none true = omega arith
one_or_none false = omega arith

level_half : (a : Rectangle) → class_of a / 2 ≡ level_of (a.last_row + 1 - a.first_row)
level_half a = half (level_of (a.last_row + 1 - a.first_row)) (cond (is_narrow a) 0 1) (one_or_none (is_narrow a))

-- the first row is at most a level's height above the area
high_enough : (first last height from to : ℕ) → first ≤ last → last + 1 - first ≤ height → from ≤ last → first ≤ to → (from + 1 - height ≤ first) × (first < to + 1)
high_enough first last height from to a b c d = (omega arith, omega arith)

rows_fit : (a : Rectangle) → IsRectangle a → a.last_row + 1 - a.first_row ≤ 1048576
rows_fit a valid = omega (arith, valid.rows_to, valid.rows_from)

module _ (class : ℕ) (area : Rectangle) where
  -- by the facts of a spot's area that meets the other one
  within_narrow : (s : Spot) → class_of (area_of s) ≡ class → is_narrow (area_of s) ≡ true → area.first_col ≤ s.first_col → s.first_col ≤ area.last_col
      → ((window_of class area).left ≤ s.first_col) × (s.first_col ≤ (window_of class area).right)
  within_narrow s is narrow a b =
      let level : ℕ = level_of (s.last_row + 1 - s.first_row) in
      let here : class ≡ 2 * level + 0 = sym is ∙ ap (λ n. 2 * level + cond n 0 1) narrow in
      let side : class % 2 ≡ 0 = ap (λ n. n % 2) here ∙ even level in
      let test : (class % 2 == 0) ≡ true = eq-eqb _ _ side in
      (subst (λ t. cond t area.first_col 0 ≤ s.first_col) (sym test) a, subst (λ t. s.first_col ≤ cond t area.last_col 0) (sym test) b)

  within_wide : (s : Spot) → class_of (area_of s) ≡ class → is_narrow (area_of s) ≡ false → ((window_of class area).left ≤ 0) × (0 ≤ (window_of class area).right)
  within_wide s is wide =
      let level : ℕ = level_of (s.last_row + 1 - s.first_row) in
      let here : class ≡ 2 * level + 1 = sym is ∙ ap (λ n. 2 * level + cond n 0 1) wide in
      let side : class % 2 ≡ 1 = ap (λ n. n % 2) here ∙ odd level in
      (subst (λ t. cond (t == 0) area.first_col 0 ≤ 0) (sym side) (omega arith), omega arith)

  within : (s : Spot) → IsPlaced s → s.class ≡ class → meets (area_of s) area ≡ true → IsWithin (window_of class area) s
  within s placed is met =
      let outer = and_parts _ _ met in
      let left = and_parts _ _ outer.0 in
      let cols = and_parts _ _ left.1 in
      let rows = and_parts _ _ outer.1 in
      let level : ℕ = level_of (s.last_row + 1 - s.first_row) in
      let class_is : class_of (area_of s) ≡ class = sym (ap (λ (x : Spot). x.class) placed.place) ∙ is in
      let column_is : s.column ≡ cond (is_narrow (area_of s)) s.first_col 0 = ap (λ (x : Spot). x.column) placed.place in
      let tall : s.last_row + 1 - s.first_row ≤ height (class / 2) = subst (λ k. s.last_row + 1 - s.first_row ≤ height k) (sym (level_half (area_of s)) ∙ ap (λ k. k / 2) class_is) (tall_enough (s.last_row + 1 - s.first_row) (rows_fit (area_of s) placed.valid)) in
      let high = high_enough s.first_row s.last_row (height (class / 2)) area.first_row area.last_row placed.valid.rows_in_order tall (leb-true _ _ rows.1) (leb-true _ _ rows.0) in
      let columns : ((window_of class area).left ≤ s.column) × (s.column ≤ (window_of class area).right) =
      elim (is_narrow (area_of s)) as (λ b. is_narrow (area_of s) ≡ b → s.column ≡ cond b s.first_col 0 → ((window_of class area).left ≤ s.column) × (s.column ≤ (window_of class area).right)) [
        | true ↦ λ narrow at. subst (λ k. ((window_of class area).left ≤ k) × (k ≤ (window_of class area).right)) (sym at)
            (within_narrow s class_is narrow (subst (λ k. area.first_col ≤ k) (sym (eqb-true s.first_col s.last_col narrow)) (leb-true _ _ cols.1)) (leb-true _ _ cols.0))
        | false ↦ λ wide at. subst (λ k. ((window_of class area).left ≤ k) × (k ≤ (window_of class area).right)) (sym at) (within_wide s class_is wide)
      ] refl column_is in
      record {
        sheet = eqb-true _ _ left.0;
        left = columns.0;
        right = columns.1;
        first = high.0;
        end = high.1;
      }

  module _ (id : ℕ) where
    -- what a walk over all columns finds
    pub met_between : (s : Spot) → IsPlaced s → (is_between (window_of class area) (window_of class area).left (window_of class area).right s && is_met area id s) ≡ is_met_in class area id s
    met_between s placed =
        both_ways _ _
        (λ h. let parts = and_parts _ _ h in and_from _ _ (eq-eqb _ _ (class_between (window_of class area) (window_of class area).left (window_of class area).right s parts.0).0) parts.1)
        (λ h.
        let parts = and_parts _ _ h in
        let is : s.class ≡ class = eqb-true _ _ parts.0 in
        let at = within s placed is (and_parts _ _ parts.1).1 in
        and_from _ _ (is_inside (window_of class area) (window_of class area).left (window_of class area).right s is at.sheet at.left at.right at.first at.end) parts.1)

    -- what a walk over one column finds
    pub met_column : (column : ℕ) (s : Spot) → IsPlaced s → (is_between (window_of class area) column column s && is_met area id s) ≡ ((s.column == column) && is_met_in class area id s)
    met_column column s placed =
        both_ways _ _
        (λ h.
        let parts = and_parts _ _ h in
        let at = class_between (window_of class area) column column s parts.0 in
        and_from _ _ (eq-eqb _ _ (at.1 refl)) (and_from _ _ (eq-eqb _ _ at.0) parts.1))
        (λ h.
        let outer = and_parts _ _ h in
        let parts = and_parts _ _ outer.1 in
        let is : s.class ≡ class = eqb-true _ _ parts.0 in
        let here : s.column ≡ column = eqb-true _ _ outer.0 in
        let at = within s placed is (and_parts _ _ parts.1).1 in
        and_from _ _ (is_inside (window_of class area) column column s is at.sheet (omega (arith, here)) (omega (arith, here)) at.first at.end) parts.1)

    -- the columns that a walk begins and ends with
    pub none_before : (s : Spot) → IsPlaced s → (nat_lt s.column (window_of class area).left && is_met_in class area id s) ≡ false
    none_before s placed =
        both_ways _ _
        (λ h.
        let outer = and_parts _ _ h in
        let parts = and_parts _ _ outer.1 in
        let at = within s placed (eqb-true _ _ parts.0) (and_parts _ _ parts.1).1 in
        absurd (omega (arith, at.left, ltb-true _ _ outer.0)))
        (λ h. absurd (false≢true h))

    pub all_behind : (column : ℕ) → (window_of class area).right < column → (s : Spot) → IsPlaced s → (nat_lt s.column column && is_met_in class area id s) ≡ is_met_in class area id s
    all_behind column past s placed =
        both_ways _ _ (λ h. (and_parts _ _ h).1)
        (λ h.
        let parts = and_parts _ _ h in
        let at = within s placed (eqb-true _ _ parts.0) (and_parts _ _ parts.1).1 in
        and_from _ _ (lt-ltb at past) h)
      where
        lt-ltb : {s : Spot} → IsWithin (window_of class area) s → (window_of class area).right < column → nat_lt s.column column ≡ true
        lt-ltb {s} at past = below s.column (window_of class area).right column at.right past
          where
            below : (a b c : ℕ) → a ≤ b → b < c → nat_lt a c ≡ true
            below a b c h k = grind (arith, nat_tests)

-- lists of spots that are placed
pub any_placed : {X : Type 0} (P : X → Type 0) (f g : X → Bool) → ((x : X) → P x → f x ≡ g x) → (xs : List X) → All P xs → list_any f xs ≡ list_any g xs
any_placed P f g same [] all = refl
any_placed P f g same (x ∷ xs) all =
    ap (λ b. b || list_any f xs) (same x (All-head P x xs all)) ∙ ap (λ b. g x || b) (any_placed P f g same xs (All-tail P x xs all))

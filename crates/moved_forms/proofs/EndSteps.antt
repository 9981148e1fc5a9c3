-- The ends of a reference's rows, as a formula that moves along a column has them, change in steps.
use Rattle.std.proofs.Common.{◌≡◌, ℕ, ◌+◌, ◌-◌, ◌≤◌, ℤ, pos, ◌+ℤ◌, Bool, true, false, ◌&&◌, not, cond, Some, None, refl, sym, ap, ◌∙◌, arith}
use Rattle.std.specs.Prelude.{nat_le, nat_lt, int_le, unsigned_abs, ◌-ℤ◌}
use Rattle.std.specs.Option.{option_map}
use Rattle.std.proofs.lemmas.Bool.Decides.{nat_tests}
use Rattle.std.proofs.lemmas.Int.{ints}
use Rattle.calc_addr.specs.Bracketed.{together}
use Rattle.calc_addr.specs.Ends.{AreEnds, in_order, whole}
use Rattle.calc_addr.specs.Moves.{at_distance, moved_end, moved_ends}
use Rattle.calc_model.proofs.Areas.{both_true}
use Rattle.calc_model.proofs.EntriesKept.{both_so}
use Rattle.formula_code.specs.Relative.{to_distance}
use Rattle.moved_forms.proofs.Steps.{Steps}

abbrev type_of : {X : Type 0} → X → Type 0
type_of {X = X} x = X

-- the ends of an axis, and one of them
abbrev pub Ends : Type 0
Ends = type_of (whole 1)

abbrev pub End : Type 0
End = type_of (whole 1).first

abbrev pub relative_end : ℕ → ℕ → End → End
relative_end last row e = record e { at = to_distance (not e.marked) last row e.at }

abbrev pub relative_ends : ℕ → ℕ → Ends → Ends
relative_ends last row ends = record { first = relative_end last row ends.first; last = relative_end last row ends.last }

-- a whole number, if it lies from 1 to the last one
number_is : (z : ℤ) (last n : ℕ) (there : Bool) → (there ≡ true → pos n ≡ z) → (int_le (pos 1) z && int_le z (pos last)) ≡ there → cond (int_le (pos 1) z && int_le z (pos last)) (Some (unsigned_abs z)) None ≡ cond there (Some n) None
number_is z last n true same test = ap (λ b. cond b (Some (unsigned_abs z)) None) test ∙ ap (λ (y : ℤ). Some (unsigned_abs y)) (sym (same refl))
number_is z last n false same test = ap (λ b. cond b (Some (unsigned_abs z)) None) test

module _ (last home : ℕ) (fits : home ≤ last) where
  abbrev near : ℕ → ℕ → Bool
  near at row = nat_lt home (at + row) && nat_le (at + row) (last + home)

  near_is : (at row : ℕ) → (int_le (pos 1) (pos at +ℤ (pos row -ℤ pos home)) && int_le (pos at +ℤ (pos row -ℤ pos home)) (pos last)) ≡ near at row
  near_is at row = grind (arith, ints, nat_tests)

  distance_is : (at row : ℕ) → at_distance last (pos row -ℤ pos home) at ≡ cond (near at row) (Some (at + row - home)) None
  distance_is at row = number_is (pos at +ℤ (pos row -ℤ pos home)) last (at + row - home) (near at row) (λ h. inside (both_true (nat_lt home (at + row)) (nat_le (at + row) (last + home)) h).0) (near_is at row)
    where
      inside : nat_lt home (at + row) ≡ true → pos (at + row - home) ≡ pos at +ℤ (pos row -ℤ pos home)
      inside h = grind (arith, ints, nat_tests)

  -- whether an end stays in the sheet, where it lies in a row, and its distance
  abbrev stays : Bool → ℕ → ℕ → Bool
  stays marked at row = cond marked true (near at row)

  abbrev goes : Bool → ℕ → ℕ → ℕ
  goes marked at row = cond marked at (at + row - home)

  abbrev kept : Bool → ℕ → ℕ
  kept marked at = cond marked at (last + at - home)

  abbrev end_at : Bool → ℕ → End
  end_at marked at = record { at = at; marked = marked }

  moved_is : (marked : Bool) (at row : ℕ) → moved_end last (pos row -ℤ pos home) (end_at marked at) ≡ cond (stays marked at row) (Some (end_at marked (goes marked at row))) None
  moved_is true at row = refl
  moved_is false at row =
      ap (option_map (λ (to : ℕ). end_at false to)) (distance_is at row)
      ∙ elim (near at row) as (λ b. option_map (λ (to : ℕ). end_at false to) (cond b (Some (at + row - home)) None) ≡ cond b (Some (end_at false (at + row - home))) None) [ true ↦ refl | false ↦ refl ]

  kept_is : (marked : Bool) (at row : ℕ) → stays marked at row ≡ true → relative_end last row (end_at marked (goes marked at row)) ≡ end_at marked (kept marked at)
  kept_is true at row there = refl
  kept_is false at row there =
      let from : nat_lt home (at + row) ≡ true = (both_true (nat_lt home (at + row)) (nat_le (at + row) (last + home)) there).0 in
      let same : last + (at + row - home) - row ≡ last + at - home = grind (arith, nat_tests, from, fits) in
      ap (end_at false) same

  abbrev pair : End → End → Ends
  pair x y = record { first = x; last = y }

  both_kept : (p q early : Bool) (x y u w : End) (row : ℕ) → early ≡ nat_le x.at y.at → (p ≡ true → relative_end last row x ≡ u) → (q ≡ true → relative_end last row y ≡ w) → option_map (relative_ends last row) (together in_order (cond p (Some x) None) (cond q (Some y) None)) ≡ cond (p && q) (cond early (Some (pair u w)) (Some (pair w u))) None
  both_kept true true early x y u w row is first second =
      elim (nat_le x.at y.at) as (λ b. early ≡ b → Some (relative_ends last row (cond b (pair x y) (pair y x))) ≡ cond early (Some (pair u w)) (Some (pair w u))) [
        | true ↦ λ e. ap (λ v. Some (pair v (relative_end last row y))) (first refl) ∙ ap (λ v. Some (pair u v)) (second refl) ∙ sym (ap (λ b. cond b (Some (pair u w)) (Some (pair w u))) e)
        | false ↦ λ e. ap (λ v. Some (pair v (relative_end last row x))) (second refl) ∙ ap (λ v. Some (pair w v)) (first refl) ∙ sym (ap (λ b. cond b (Some (pair u w)) (Some (pair w u))) e)
      ] is
  both_kept true false early x y u w row is first second = refl
  both_kept false q early x y u w row is first second = refl

  stays_home : (marked : Bool) (at : ℕ) → 1 ≤ at → at ≤ last → stays marked at home ≡ true
  stays_home true at low high = refl
  stays_home false at low high = grind (arith, nat_tests, low, high)

  stays_between : (marked : Bool) (at x z y : ℕ) → x ≤ z → z ≤ y → stays marked at x ≡ true → stays marked at y ≡ true → stays marked at z ≡ true
  stays_between true at x z y low high first second = refl
  stays_between false at x z y low high first second = grind (arith, nat_tests, low, high, first, second)

  early_between : (m n : Bool) (a b x z y : ℕ) → a ≤ b → x ≤ z → z ≤ y → nat_le (goes m a x) (goes n b x) ≡ nat_le (goes m a y) (goes n b y) → nat_le (goes m a z) (goes n b z) ≡ nat_le (goes m a x) (goes n b x)
  early_between true true a b x z y order low high same = refl
  early_between true false a b x z y order low high same = grind (arith, nat_tests, order, low, high, same)
  early_between false true a b x z y order low high same = grind (arith, nat_tests, order, low, high, same)
  early_between false false a b x z y order low high same = grind (arith, nat_tests, order, low, high)

  -- the ends, relative to the row, change in steps
  pub ends_steps : (e : Ends) → AreEnds last e → Steps home (λ row. option_map (relative_ends last row) (moved_ends last (pos row -ℤ pos home) e))
  ends_steps e are =
      let m : Bool = e.first.marked in
      let n : Bool = e.last.marked in
      let a : ℕ = e.first.at in
      let b : ℕ = e.last.at in
      record {
        there = λ row. stays m a row && stays n b row;
        early = λ row. nat_le (goes m a row) (goes n b row);
        first = pair (end_at m (kept m a)) (end_at n (kept n b));
        second = pair (end_at n (kept n b)) (end_at m (kept m a));
        is = λ row.
            ap (λ o. option_map (relative_ends last row) (together in_order o (moved_end last (pos row -ℤ pos home) e.last))) (moved_is m a row)
            ∙ ap (λ o. option_map (relative_ends last row) (together in_order (cond (stays m a row) (Some (end_at m (goes m a row))) None) o)) (moved_is n b row)
            ∙ both_kept (stays m a row) (stays n b row) (nat_le (goes m a row) (goes n b row)) (end_at m (goes m a row)) (end_at n (goes n b row)) (end_at m (kept m a)) (end_at n (kept n b)) row refl (kept_is m a row) (kept_is n b row);
        home_there = both_so (stays m a home) (stays n b home) (stays_home m a are.from (omega (arith, are.ordered, are.to))) (stays_home n b (omega (arith, are.from, are.ordered)) are.to);
        all_between = λ x z y low high first second.
            let at_x = both_true (stays m a x) (stays n b x) first in
            let at_y = both_true (stays m a y) (stays n b y) second in
            both_so (stays m a z) (stays n b z) (stays_between m a x z y low high at_x.0 at_y.0) (stays_between n b x z y low high at_x.1 at_y.1);
        same_between = λ x z y low high same. early_between m n a b x z y are.ordered low high same;
      }

-- Circular cells of an area, one more, until one isn't in a list.
use Rattle.std.proofs.Common.{◌≡◌, ℕ, ◌+◌, ◌<◌, ◌≤◌, ◌⊎◌, true, false, List, length, sym, subst, ◌∙◌, ⊎_elim, arith}
use Rattle.std.proofs.lemmas.Bool.{cases_order, false≢true}
use Rattle.calc_addr.specs.Places.{Place, Rectangle, covers}
use Rattle.dirty_spread.specs.Finding.{IsCircleIn, IsNextIn, IsPassed, at}
use Rattle.dirty_spread.specs.Waves.{has}
use Rattle.dirty_spread.proofs.Beside.{has_held, held_has}
use Rattle.dirty_spread.proofs.Found.{at_holds, at_of}

module _ (cells circles : List Place) (area : Rectangle) where
  pub passed_none : (place : ℕ) → IsNextIn circles area 0 place → IsPassed cells circles area place
  passed_none place next = record {
    within = next.within;
    here = next.here;
    before = λ i low c. absurd (false≢true (sym (next.none i (omega arith) low) ∙ c));
  }

  module _ (place : ℕ) (passed : IsPassed cells circles area place) where
    pub passed_more : has cells (at circles place) ≡ true → (after : ℕ) → IsNextIn circles area (place + 1) after → IsPassed cells circles area after
    passed_more held after next = record {
      within = next.within;
      here = next.here;
      before = λ i low c.
          ⊎_elim (λ (e : i ≡ place). subst (λ n. has cells (at circles n) ≡ true) (sym e) held)
          (λ (o : (i < place) ⊎ (place < i)).
          ⊎_elim (λ (l : i < place). passed.before i l c) (λ (l : place < i). absurd (false≢true (sym (next.none i (omega arith) low) ∙ c))) o)
          (cases_order i place);
    }

    -- the circular cell at the place isn't in the list
    pub passed_one : place < length circles → has cells (at circles place) ≡ false → IsCircleIn cells circles area (at circles place)
    passed_one within absent = record {
      covered = passed.here within;
      beside = absent;
      circle = held_has circles (at circles place) (at_holds circles place within);
    }

    -- all circular cells of the area are in the list
    pub passed_all : length circles ≤ place → (q : Place) → IsCircleIn cells circles area q → ⊥
    passed_all all q one =
        let there = at_of circles q (has_held circles q one.circle) in
        let held : has cells (at circles there.0) ≡ true = passed.before there.0 (omega (arith, there.1)) (subst (λ p. covers area p ≡ true) (sym there.2) one.covered) in
        false≢true (sym one.beside ∙ subst (λ p. has cells p ≡ true) there.2 held)

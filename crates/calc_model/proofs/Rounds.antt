-- Rounds of grounding: what one round grounds the next one does, and after as many rounds as there are
-- formulas nothing more is grounded.
use Rattle.std.proofs.Common.{◌≡◌, ℕ, zero, suc, ◌+◌, ◌-◌, ◌≤◌, Bool, true, false, not, ◌&&◌, List, [], ◌∷◌, refl, ap, subst, arith, Option, Some, None, unwrap_or}
use Rattle.std.proofs.lemmas.Bool.{and_from, not-true, not-false}
use Rattle.std.specs.List.{list_all}
use Rattle.std.specs.FinMap.Entries.{find}
use Rattle.calc_addr.specs.Places.{Place, Rectangle, place_cmp, places}
use Rattle.calc_model.specs.declared.content.Content.{Content}
use Rattle.calc_model.specs.declared.content.Content.TheVariants.{Empty, Constant, Formula, Raw}
use Rattle.calc_model.specs.Books.{Book, content_at, area_named, is_formula, formula_count}
use Rattle.calc_model.specs.Reads.{reads, content_areas}
use Rattle.calc_model.specs.Grounded.{all_cells, is_grounded, is_circular}
use Rattle.calc_model.proofs.Areas.{both_true, places_all, all_places}
use Rattle.calc_model.proofs.Pigeonhole.{IsFull, count, count_le, found_passes, full_round, same_counted}
use Rattle.calc_model.proofs.Places.{same_places}

pub all_cells_more : (f g : Place → Bool) → ((q : Place) → f q ≡ true → g q ≡ true) → (areas : List Rectangle) → all_cells f areas ≡ true → all_cells g areas ≡ true
all_cells_more f g implies [] h = refl
all_cells_more f g implies (a ∷ areas) h =
    let parts = both_true (list_all f (places a)) (all_cells f areas) h in
    let here : list_all g (places a) ≡ true = all_places g a (λ q c. implies q (places_all f a parts.0 q c)) in
    let rest : all_cells g areas ≡ true = all_cells_more f g implies areas parts.1 in
    rw (here, rest) refl

-- a formula that a search finds is held
pub held_entry : (o : Option Content) → is_formula (unwrap_or o Empty) ≡ true → (x : Content) × (o ≡ Some x) × (is_formula x ≡ true)
held_entry (Some x) h = (x, refl, h)
held_entry None h = cc

module _ (book : Book) where
  -- a cell that holds no formula reads nothing
  reads_none : (x : Content) (p : Place) → is_formula x ≡ false → content_areas p (area_named book) x ≡ []
  reads_none Empty p h = refl
  reads_none (Constant v) p h = refl
  reads_none (Formula t) p h = cc
  reads_none (Raw t) p h = refl

  pub grounded_once_more : (k : ℕ) (p : Place) → is_grounded book k p ≡ true → is_grounded book (suc k) p ≡ true
  grounded_once_more zero p h = ap (all_cells (is_grounded book zero)) (reads_none (content_at book p) p (not-true _ h))
  grounded_once_more (suc k) p h = all_cells_more (is_grounded book k) (is_grounded book (suc k)) (grounded_once_more k) (reads book p) h

  pub grounded_later : (k j : ℕ) (p : Place) → is_grounded book k p ≡ true → is_grounded book (j + k) p ≡ true
  grounded_later k zero p h =
      let e : k ≡ zero + k = omega arith in
      subst (λ n. is_grounded book n p ≡ true) e h
  grounded_later k (suc j) p h =
      let e : suc (j + k) ≡ suc j + k = omega arith in
      subst (λ n. is_grounded book n p ≡ true) e (grounded_once_more (j + k) p (grounded_later k j p h))

  -- each cell that holds no formula is grounded from the start
  pub grounded_constant : (k : ℕ) (p : Place) → is_formula (content_at book p) ≡ false → is_grounded book k p ≡ true
  grounded_constant zero p h = ap not h
  grounded_constant (suc k) p h = ap (all_cells (is_grounded book k)) (reads_none (content_at book p) p h)

  -- a round that grounds all that the next one does
  IsLast : ℕ → Type 0
  IsLast k = (p : Place) → is_grounded book (suc k) p ≡ true → is_grounded book k p ≡ true

  stays_last : (k : ℕ) → IsLast k → IsLast (suc k)
  unfolding IsLast
  stays_last k h p g = all_cells_more (is_grounded book (suc k)) (is_grounded book k) h (reads book p) g

  last_later : (j : ℕ) → IsLast j → (i : ℕ) → IsLast (i + j)
  last_later j h zero = let e : j ≡ zero + j = omega arith in subst IsLast e h
  last_later j h (suc i) = let e : suc (i + j) ≡ suc i + j = omega arith in subst IsLast e (stays_last (i + j) (last_later j h i))

  back_to_last : (j : ℕ) → IsLast j → (i : ℕ) (p : Place) → is_grounded book (i + j) p ≡ true → is_grounded book j p ≡ true
  unfolding IsLast
  back_to_last j h zero p g = let e : zero + j ≡ j = omega arith in subst (λ n. is_grounded book n p ≡ true) e g
  back_to_last j h (suc i) p g =
      let e : suc i + j ≡ suc (i + j) = omega arith in
      back_to_last j h i p (last_later j h i p (subst (λ n. is_grounded book n p ≡ true) e g))

  -- an entry that holds a formula, which a round has grounded
  abbrev grounded_entry : ℕ → Place × Content → Bool
  grounded_entry k entry = is_formula entry.1 && is_grounded book k entry.0

  grounded_again : (k : ℕ) (entry : Place × Content) → grounded_entry k entry ≡ true → grounded_entry (suc k) entry ≡ true
  grounded_again k entry h = let parts = both_true _ _ h in and_from _ _ parts.0 (grounded_once_more k entry.0 parts.1)

  grounded_bound : (k : ℕ) → count (grounded_entry k) book.cells ≤ formula_count book
  unfolding formula_count
  grounded_bound k = count_le (grounded_entry k) (λ entry. is_formula entry.1) (λ entry h. (both_true _ _ h).0) book.cells

  last_of_full : (k : ℕ) → IsFull book.cells grounded_entry (formula_count book) grounded_bound k → IsLast k
  unfolding IsLast content_at
  last_of_full k full p g =
      elim (is_formula (content_at book p)) as (λ b. is_formula (content_at book p) ≡ b → is_grounded book k p ≡ true) [
        | true ↦ λ is.
            let entry = held_entry (find place_cmp p book.cells) is in
            let all = same_counted (grounded_entry k) (grounded_entry (suc k)) (grounded_again k) book.cells full in
            let here = found_passes place_cmp same_places (λ e. grounded_entry (suc k) e ≡ true → grounded_entry k e ≡ true) book.cells p entry.0 all entry.1 in
            (both_true _ _ (here (and_from _ _ entry.2 g))).1
        | false ↦ λ is_not. grounded_constant k p is_not
      ] refl

  some_last : (j : ℕ) × (j ≤ formula_count book + 1) × IsLast j
  some_last = let full = full_round book.cells grounded_entry (formula_count book) grounded_bound in (full.0, full.1, last_of_full full.0 full.2)

  -- what any round grounds is not circular
  pub grounded_ever : (k : ℕ) (p : Place) → is_grounded book k p ≡ true → is_circular book p ≡ false
  grounded_ever k p h =
      let last = some_last in
      let n : ℕ = formula_count book + 1 in
      let within : last.0 ≤ formula_count book + 1 = last.1 in
      let together : last.0 + k ≡ k + last.0 = omega arith in
      let all_rounds : (n - last.0) + last.0 ≡ n = omega arith in
      let at_last : is_grounded book last.0 p ≡ true = back_to_last last.0 last.2 k p (subst (λ m. is_grounded book m p ≡ true) together (grounded_later k last.0 p h)) in
      ap not (subst (λ m. is_grounded book m p ≡ true) all_rounds (grounded_later last.0 (n - last.0) p at_last))

  pub not_circular : (p : Place) → is_circular book p ≡ false → is_grounded book (formula_count book + 1) p ≡ true
  not_circular p h = not-false _ h

  -- a cell all of whose reads are not circular is not circular
  pub grounded_by_reads : (p : Place) → all_cells (λ q. not (is_circular book q)) (reads book p) ≡ true → is_circular book p ≡ false
  grounded_by_reads p h =
      grounded_ever (suc (formula_count book + 1)) p
      (all_cells_more (λ q. not (is_circular book q)) (is_grounded book (formula_count book + 1)) (λ q e. not_circular q (not-true _ e)) (reads book p) h)

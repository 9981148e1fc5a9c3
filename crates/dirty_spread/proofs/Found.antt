-- Cells at places of a list in order.
use Rattle.std.proofs.Common.{◌≡◌, ℕ, ◌<◌, ◌≤◌, ◌⊎◌, true, false, List, length, slice_get, Some, None, sym, subst, ◌∙◌, ⊎_elim, arith}
use Rattle.std.specs.List.{AllPairs, Contains}
use Rattle.std.proofs.lemmas.Bool.{cases_lt, cases_order, false_from_ne_true}
use Rattle.std.proofs.lemmas.Cmp.{tied_itself}
use Rattle.std.proofs.lemmas.List.{get_or_default}
use Rattle.std.proofs.lemmas.Option.{get_or_from_slice_get, slice_get_within, slice_get-get_or}
use Rattle.calc_addr.specs.Places.{IsBefore, IsRectangle, Place, Rectangle, corner, covers}
use Rattle.calc_model.proofs.Places.{places_total}
use Rattle.calc_model.proofs.Areas.{Inside, inside}
use Rattle.dirty_spread.proofs.Listing.{Before, before}
use Rattle.dirty_spread.proofs.Stepping.{covers_corner, only_cell}
use Rattle.dirty_spread.specs.Finding.{IsFirstFrom, IsNextIn, at}

pub nowhere : Place
nowhere = record { sheet = 0; col = 0; row = 0 }

pub not_itself : (p : Place) → IsBefore p p → ⊥
not_itself p h = let tied = tied_itself places_total p in absurd (cc)

pub trans : (p q r : Place) → IsBefore p q → IsBefore q r → IsBefore p r
trans p q r h k = places_total.trans p q r h k

pub at_some : (cells : List Place) (i : ℕ) (p : Place) → slice_get cells i ≡ Some p → (i < length cells) × (at cells i ≡ p)
at_some cells i p h = (slice_get_within cells i p h, get_or_from_slice_get cells i p _ h)

pub at_none : (cells : List Place) (i : ℕ) → slice_get cells i ≡ None → i < length cells → ⊥
at_none cells i h within = let there = slice_get-get_or cells i (at cells i) within in cc

pub at_holds : (cells : List Place) (i : ℕ) → i < length cells → Contains cells (at cells i)
at_holds cells i within = (i, within, get_or_default cells i (at cells i) _ within)

pub at_of : (cells : List Place) (p : Place) → Contains cells p → (i : ℕ) × (i < length cells) × (at cells i ≡ p)
at_of cells p (i, within, is) = (i, within, get_or_default cells i _ p within ∙ is)

module _ (cells : List Place) (in_order : AllPairs IsBefore cells) where
  pub turn : (i j : ℕ) → i < j → j < length cells → IsBefore (at cells i) (at cells j)
  turn i j less within = in_order i j _ less within

  -- a cell before that at one place isn't at a later one
  pub up_to : (cell : Place) (i j : ℕ) → j < length cells → i ≤ j → IsBefore (at cells j) cell → IsBefore (at cells i) cell
  up_to cell i j within le h =
      ⊎_elim (λ (e : i ≡ j). subst (λ n. IsBefore (at cells n) cell) (sym e) h)
      (λ (o : (i < j) ⊎ (j < i)). ⊎_elim (λ (l : i < j). trans (at cells i) (at cells j) cell (turn i j l within) h) (λ (l : j < i). absurd (omega arith)) o)
      (cases_order i j)

  -- a cell stands at one place
  pub one_place : (i j : ℕ) → i < length cells → j < length cells → at cells i ≡ at cells j → i ≡ j
  one_place i j hi hj e =
      ⊎_elim (λ (same : i ≡ j). same)
      (λ (o : (i < j) ⊎ (j < i)). absurd (⊎_elim
      (λ (l : i < j). not_itself (at cells j) (subst (λ p. IsBefore p (at cells j)) e (turn i j l hj)))
      (λ (l : j < i). not_itself (at cells i) (subst (λ p. IsBefore p (at cells i)) (sym e) (turn j i l hi))) o))
      (cases_order i j)

  module _ (area : Rectangle) (from i : ℕ) (cell : Place) (within : i < length cells) (here : at cells i ≡ cell) (not_in : covers area cell ≡ false)
      (none : (j : ℕ) → from ≤ j → j < i → covers area (at cells j) ≡ false) where
    later : ((q : Place) → IsBefore cell q → covers area q ≡ false) → (j : ℕ) → from ≤ j → j < length cells → covers area (at cells j) ≡ false
    later beyond j low high =
        ⊎_elim (λ (l : j < i). none j low l)
        (λ (le : i ≤ j).
        ⊎_elim (λ (e : i ≡ j). subst (λ n. covers area (at cells n) ≡ false) e (subst (λ p. covers area p ≡ false) (sym here) not_in))
        (λ (o : (i < j) ⊎ (j < i)). ⊎_elim
        (λ (l : i < j). beyond (at cells j) (subst (λ p. IsBefore p (at cells j)) here (turn i j l high)))
        (λ (l : j < i). absurd (omega arith)) o)
        (cases_order i j))
        (cases_lt j i)

    pub skipped_all : ((q : Place) → IsBefore cell q → covers area q ≡ false) → IsNextIn cells area from (length cells)
    skipped_all beyond = record { within = omega arith; here = λ less. absurd (omega arith); none = λ j low high. later beyond j low high }

    module _ (next : Place) (far : IsBefore cell next) (gap : (q : Place) → IsBefore cell q → IsBefore q next → covers area q ≡ false) (place : ℕ) (first : IsFirstFrom cells next place) where
      pub skipped_on : i < place
      skipped_on = ⊎_elim (λ (l : i < place). l) (λ (le : place ≤ i). absurd (first.from i le within (subst (λ p. IsBefore p next) (sym here) far))) (cases_lt i place)

      pub skipped_none : (j : ℕ) → from ≤ j → j < place → covers area (at cells j) ≡ false
      skipped_none j low high =
          let in_list : j < length cells = omega (arith, first.within) in
          ⊎_elim (λ (l : j < i). none j low l)
          (λ (le : i ≤ j).
          ⊎_elim (λ (e : i ≡ j). subst (λ n. covers area (at cells n) ≡ false) e (subst (λ p. covers area p ≡ false) (sym here) not_in))
          (λ (o : (i < j) ⊎ (j < i)). ⊎_elim
          (λ (l : i < j). gap (at cells j) (subst (λ p. IsBefore p (at cells j)) here (turn i j l in_list)) (first.before j high))
          (λ (l : j < i). absurd (omega arith)) o)
          (cases_order i j))
          (cases_lt j i)

  -- the one cell of an area stands at no other place
  module _ (area : Rectangle) (rectangle : IsRectangle area) (col : area.first_col ≡ area.last_col) (row : area.first_row ≡ area.last_row) where
    pub alone : (i place : ℕ) → i < length cells → place < length cells → at cells place ≡ corner area → covers area (at cells i) ≡ true → i ≡ place
    alone i place hi hp here c = one_place i place hi hp (only_cell area (at cells i) col row c ∙ sym here)

    pub one_found : (from place : ℕ) → from ≤ place → slice_get cells place ≡ Some (corner area) → IsNextIn cells area from place
    one_found from place le is =
        let here = at_some cells place (corner area) is in
        record {
          within = omega (arith, here.0);
          here = λ less. subst (λ p. covers area p ≡ true) (sym here.1) (covers_corner area rectangle.cols_in_order rectangle.rows_in_order);
          none = λ i low high. false_from_ne_true (covers area (at cells i)) (λ c. absurd (omega (arith, alone i place (omega (arith, here.0)) here.0 here.1 c)));
        }

  -- the first cell of an area is the next one of it
  pub first_found : (area : Rectangle) → IsRectangle area → (from place : ℕ) → slice_get cells place ≡ Some (corner area) → IsNextIn cells area from place
  first_found area rectangle from place is =
      let here = at_some cells place (corner area) is in
      record {
        within = omega (arith, here.0);
        here = λ less. subst (λ p. covers area p ≡ true) (sym here.1) (covers_corner area rectangle.cols_in_order rectangle.rows_in_order);
        none = λ i low high. false_from_ne_true (covers area (at cells i)) (λ c. none_before area (at cells i) c (before (at cells i) (corner area) (subst (λ p. IsBefore (at cells i) p) here.1 (turn i place high here.0))));
      }
    where
      none_before : (area : Rectangle) (q : Place) → covers area q ≡ true → Before q (corner area) → ⊥
      none_before area q c (Before.by_sheet h) = let l : Inside area q = inside area q c in omega (arith, l.same_sheet)
      none_before area q c (Before.by_col e h) = let l : Inside area q = inside area q c in omega (arith, l.col_from)
      none_before area q c (Before.by_row e f h) = let l : Inside area q = inside area q c in omega (arith, l.row_from)

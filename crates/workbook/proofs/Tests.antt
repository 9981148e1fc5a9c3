-- Tests of cells, and lists of cells that are gone over.
use Rattle.std.proofs.Common.{◌≡◌, ◌<◌, ◌≤◌, ℕ, zero, suc, ◌+◌, Bool, true, false, ◌||◌, ◌&&◌, List, [], ◌∷◌, ◌++◌, take, length, get_or, slice_get, Option, Some, arith, refl, sym, ap, subst, ◌∙◌}
use Rattle.std.specs.List.{Contains, list_any}
use Rattle.std.specs.Prelude.{◌↔◌}
use Rattle.std.specs.Ordering.{eq_by_cmp}
use Rattle.std.proofs.lemmas.Bool.{false≢true}
use Rattle.std.proofs.lemmas.List.{take_all}
use Rattle.std.proofs.lemmas.List.Folds.{list_any-append, list_any_more}
use Rattle.calc_addr.specs.Places.{Place, Rectangle, covers, place_cmp}
use Rattle.calc_model.specs.Touched.{CellSet}
use Rattle.calc_model.proofs.Places.{same_places}
use Rattle.calc_model.proofs.Reached.{same_cell}
use Rattle.dirty_spread.specs.Waves.{has}
use Rattle.dirty_spread.proofs.Beside.{has_held, held_has}

-- tests that pass together are the same
pub same_tests : (a b : Bool) → (a ≡ true → b ≡ true) → (b ≡ true → a ≡ true) → a ≡ b
same_tests true b f g = sym (f refl)
same_tests false true f g = g refl
same_tests false false f g = refl

-- a list of the cells that pass a test
pub has_by : (cells : List Place) (q : Place) (b : Bool) → Contains cells q ↔ (b ≡ true) → has cells q ≡ b
has_by cells q b exact = same_tests (has cells q) b (λ h. exact.0 (has_held cells q h)) (λ h. held_has cells q (exact.1 h))

pub tied_both_ways : (p q : Place) → eq_by_cmp place_cmp p q ≡ eq_by_cmp place_cmp q p
tied_both_ways p q = same_tests _ _ (λ h. subst (λ z. eq_by_cmp place_cmp q z ≡ true) (sym (same_places p q h)) (same_cell q)) (λ h. subst (λ z. eq_by_cmp place_cmp p z ≡ true) (sym (same_places q p h)) (same_cell p))

-- a cell that passes joins others
pub joins : (old new test : CellSet) (cell q : Place) → test cell ≡ true → new q ≡ (old q || eq_by_cmp place_cmp q cell) → new q ≡ (old q || (eq_by_cmp place_cmp q cell && test q))
joins old new test cell q passes is = is ∙ ap (λ b. old q || b) (with_test (eq_by_cmp place_cmp q cell) (test q) (λ h. subst (λ z. test z ≡ true) (sym (same_places q cell h)) passes))
  where
    with_test : (b t : Bool) → (b ≡ true → t ≡ true) → b ≡ (b && t)
    with_test true t h = sym (h refl)
    with_test false t h = refl

-- one that doesn't pass joins none
pub stays_out : (old test : CellSet) (cell q : Place) → test cell ≡ false → old q ≡ (old q || (eq_by_cmp place_cmp q cell && test q))
stays_out old test cell q fails = sym (ap (λ b. old q || b) (without (eq_by_cmp place_cmp q cell) (test q) (λ h. subst (λ z. test z ≡ false) (sym (same_places q cell h)) fails)) ∙ or_false (old q))
  where
    without : (b t : Bool) → (b ≡ true → t ≡ false) → (b && t) ≡ false
    without true t h = h refl
    without false t h = refl

    or_false : (b : Bool) → (b || false) ≡ b
    or_false true = refl
    or_false false = refl

-- of the first cells of a list those that pass have joined
abbrev pub Walked : List Place → ℕ → CellSet → CellSet → CellSet → Type 0
Walked cells i test old now = (q : Place) → now q ≡ (old q || (has (take i cells) q && test q))

module _ (cells : List Place) (test old : CellSet) where
  step : (a b c t : Bool) → ((a || (b && t)) || (c && t)) ≡ (a || ((b || c) && t))
  step true b c t = refl
  step false true true true = refl
  step false true true false = refl
  step false true false true = refl
  step false true false false = refl
  step false false c t = refl

  pub one_walked : (i : ℕ) (cell : Place) (now new : CellSet) → i < length cells → cell ≡ get_or cells i cell → Walked cells i test old now → ((q : Place) → new q ≡ (now q || (eq_by_cmp place_cmp q cell && test q))) → Walked cells (i + 1) test old new
  one_walked i cell now new within at so_far joined q =
      joined q ∙ ap (λ b. b || (eq_by_cmp place_cmp q cell && test q)) (so_far q)
      ∙ step (old q) (has (take i cells) q) (eq_by_cmp place_cmp q cell) (test q)
      ∙ ap (λ b. old q || (b && test q)) (sym (list_any_more (eq_by_cmp place_cmp q) cells i cell within ∙ ap (λ p. has (take i cells) q || eq_by_cmp place_cmp q p) (sym at)))

  pub all_walked : (i : ℕ) (now : CellSet) → length cells ≤ i → Walked cells i test old now → (q : Place) → now q ≡ (old q || (has cells q && test q))
  all_walked i now all walked q = walked q ∙ ap (λ qs. old q || (has qs q && test q)) (take_all i cells all)

-- areas with that of a cell more
pub pushed_area : (old new : List Rectangle) (area : Rectangle) (cell q : Place) → new ≡ old ++ area ∷ [] → ((q : Place) → covers area q ≡ eq_by_cmp place_cmp q cell) → list_any (λ a. covers a q) new ≡ (list_any (λ a. covers a q) old || eq_by_cmp place_cmp q cell)
pushed_area old new area cell q grown is =
    ap (list_any (λ a. covers a q)) grown ∙ list_any-append (λ a. covers a q) old (area ∷ []) ∙ ap (λ b. list_any (λ a. covers a q) old || b) (or_false (covers area q) ∙ is q)
  where
    or_false : (b : Bool) → (b || false) ≡ b
    or_false true = refl
    or_false false = refl

pub or_swapped : (a b : Bool) → (a || b) ≡ (b || a)
or_swapped true true = refl
or_swapped true false = refl
or_swapped false true = refl
or_swapped false false = refl

pub or_moved : (a b c : Bool) → ((a || b) || c) ≡ (a || (b || c))
or_moved true b c = refl
or_moved false b c = refl

-- a place before the end has an item
pub no_item : (cells : List Place) (i : ℕ) {o : Option Place} → slice_get cells i ≡ o → ((cell : Place) → o ≡ Some cell → ⊥) → i < length cells → ⊥
no_item [] i at none within = absurd (omega (arith, within))
no_item (x ∷ xs) zero at none within = none x (sym at)
no_item (x ∷ xs) (suc i) at none within = no_item xs i at none (omega (arith, within))

-- a cell that is there already joins none
pub already : (now test : CellSet) (cell q : Place) → now cell ≡ true → now q ≡ (now q || (eq_by_cmp place_cmp q cell && test q))
already now test cell q there = kept (now q) (eq_by_cmp place_cmp q cell) (test q) (λ h. subst (λ z. now z ≡ true) (sym (same_places q cell h)) there)
  where
    kept : (n e t : Bool) → (e ≡ true → n ≡ true) → n ≡ (n || (e && t))
    kept true e t h = refl
    kept false true t h = absurd (false≢true (h refl))
    kept false false t h = refl

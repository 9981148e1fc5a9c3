-- What a walk finds in the first columns, or in the first classes.
use Rattle.std.proofs.Common.{◌≡◌, ℕ, ◌+◌, ◌<◌, ◌≤◌, Bool, true, false, ◌&&◌, ◌||◌, nat_lt, List, [], ◌∷◌, slice_index_or, length, ⊎_elim, refl, sym, ap, ◌∙◌, arith}
use Rattle.std.specs.Prelude.{◌==◌}
use Rattle.std.specs.List.{All, list_any}
use Rattle.std.proofs.Math.ListN.{get_or-eq_default}
use Rattle.std.proofs.lemmas.Bool.{and_parts, cases_Bool, eqb-true, false≢true, ltb-true}
use Rattle.std.proofs.lemmas.Bool.Decides.{nat_tests}
use Rattle.calc_addr.specs.Places.{Rectangle}
use Rattle.ears.proofs.Meetings.{both_ways}
use Rattle.area_listeners.specs.declared.spot.Spot.{Spot}
use Rattle.area_listeners.specs.Spots.{IsInUse, IsPlaced, is_between, is_met, is_met_in, window_of}
use Rattle.area_listeners.proofs.Placed.{all_behind, any_placed, met_column, none_before}

or_step : (a b p q : Bool) → ((a || p) || (b || q)) ≡ ((a || b) || (p || q))
or_step true b p q = refl
or_step false true true q = refl
or_step false true false q = refl
or_step false false p q = refl

any_or : {X : Type 0} (f g : X → Bool) (xs : List X) → (list_any f xs || list_any g xs) ≡ list_any (λ x. f x || g x) xs
any_or f g [] = refl
any_or f g (x ∷ xs) = or_step (f x) (g x) (list_any f xs) (list_any g xs) ∙ ap (λ b. (f x || g x) || b) (any_or f g xs)

or_assoc : (a b c : Bool) → ((a || b) || c) ≡ (a || (b || c))
or_assoc true b c = refl
or_assoc false b c = refl

or_false : (o : Bool) → (o || false) ≡ o
or_false true = refl
or_false false = refl

-- one number more
below_next : (x n : ℕ) (m : Bool) → ((nat_lt x n && m) || ((x == n) && m)) ≡ (nat_lt x (n + 1) && m)
below_next x n m = grind (arith, nat_tests)

any_next : {X : Type 0} (at : X → ℕ) (met : X → Bool) (n : ℕ) (xs : List X) (o mid new : Bool) → new ≡ (mid || list_any (λ x. (at x == n) && met x) xs) → mid ≡ (o || list_any (λ x. nat_lt (at x) n && met x) xs) → new ≡ (o || list_any (λ x. nat_lt (at x) (n + 1) && met x) xs)
any_next at met n xs o mid new step before =
    step ∙ ap (λ b. b || list_any (λ x. (at x == n) && met x) xs) before
    ∙ or_assoc o (list_any (λ x. nat_lt (at x) n && met x) xs) (list_any (λ x. (at x == n) && met x) xs)
    ∙ ap (λ b. o || b) (any_or (λ x. nat_lt (at x) n && met x) (λ x. (at x == n) && met x) xs
    ∙ same (λ x. (nat_lt (at x) n && met x) || ((at x == n) && met x)) (λ x. nat_lt (at x) (n + 1) && met x) (λ x. below_next (at x) n (met x)) xs)
  where
    same : {X : Type 0} (f g : X → Bool) → ((x : X) → f x ≡ g x) → (ys : List X) → list_any f ys ≡ list_any g ys
    same f g h [] = refl
    same f g h (y ∷ ys) = ap (λ b. b || list_any f ys) (h y) ∙ ap (λ b. g y || b) (same f g h ys)

none_of : {X : Type 0} (f : X → Bool) (P : X → Type 0) → ((x : X) → P x → f x ≡ false) → (xs : List X) → All P xs → (o : Bool) → (o || list_any f xs) ≡ o
none_of f P none xs all o = ap (λ b. o || b) (any_placed P f (λ x. false) none xs all ∙ nothing xs) ∙ or_false o
  where
    nothing : {X : Type 0} (ys : List X) → list_any (λ y. false) ys ≡ false
    nothing [] = refl
    nothing (y ∷ ys) = nothing ys

module _ (class : ℕ) (area : Rectangle) (id : ℕ) (keys : List Spot) (placed : All IsPlaced keys) where
  pub no_column : (o : Bool) → o ≡ (o || list_any (λ s. nat_lt s.column (window_of class area).left && is_met_in class area id s) keys)
  no_column o = sym (none_of (λ s. nat_lt s.column (window_of class area).left && is_met_in class area id s) IsPlaced (none_before class area id) keys placed o)

  pub next_column : (column : ℕ) (o mid new : Bool) → new ≡ (mid || list_any (λ s. is_between (window_of class area) column column s && is_met area id s) keys) → mid ≡ (o || list_any (λ s. nat_lt s.column column && is_met_in class area id s) keys)
      → new ≡ (o || list_any (λ s. nat_lt s.column (column + 1) && is_met_in class area id s) keys)
  next_column column o mid new step before =
      any_next (λ s. s.column) (is_met_in class area id) column keys o mid new
      (step ∙ ap (λ b. mid || b) (any_placed IsPlaced (λ s. is_between (window_of class area) column column s && is_met area id s) (λ s. (s.column == column) && is_met_in class area id s) (met_column class area id column) keys placed))
      before

  pub all_columns : (column : ℕ) → (window_of class area).right < column → (o new : Bool) → new ≡ (o || list_any (λ s. nat_lt s.column column && is_met_in class area id s) keys) → new ≡ (o || list_any (is_met_in class area id) keys)
  all_columns column past o new is =
      is ∙ ap (λ b. o || b) (any_placed IsPlaced (λ s. nat_lt s.column column && is_met_in class area id s) (is_met_in class area id) (all_behind class area id column past) keys placed)

module _ (area : Rectangle) (id : ℕ) (keys : List Spot) where
  pub no_class : (o : Bool) → o ≡ (o || list_any (λ s. nat_lt s.class 0 && is_met area id s) keys)
  no_class o = sym (or_none keys o)
    where
      below_none : (n : ℕ) (m : Bool) → (nat_lt n 0 && m) ≡ false
      below_none n m = grind (arith, nat_tests)

      or_none : (ys : List Spot) (o : Bool) → (o || list_any (λ s. nat_lt s.class 0 && is_met area id s) ys) ≡ o
      or_none [] o = or_false o
      or_none (y ∷ ys) o = ap (λ b. o || (b || list_any (λ s. nat_lt s.class 0 && is_met area id s) ys)) (below_none y.class (is_met area id y)) ∙ or_none ys o

  pub next_class : (class : ℕ) (o mid new : Bool) → new ≡ (mid || list_any (is_met_in class area id) keys) → mid ≡ (o || list_any (λ s. nat_lt s.class class && is_met area id s) keys)
      → new ≡ (o || list_any (λ s. nat_lt s.class (class + 1) && is_met area id s) keys)
  next_class class o mid new step before = any_next (λ s. s.class) (is_met area id) class keys o mid new step before

  pub used_below : (used : List Bool) (n k : ℕ) → length used ≤ n → slice_index_or used k false ≡ true → k < n
  used_below used n k le is =
      ⊎_elim (λ (e : nat_lt k n ≡ true). ltb-true k n e)
      (λ (e : nat_lt k n ≡ false). absurd (false≢true (sym (get_or-eq_default used false {n = k} (past used n k le e)) ∙ is)))
      (cases_Bool (nat_lt k n))
    where
      past : (used : List Bool) (n k : ℕ) → length used ≤ n → nat_lt k n ≡ false → length used ≤ k
      past used n k le h = grind (arith, nat_tests)

  module _ (used : List Bool) (in_use : All (IsInUse used) keys) where
    -- a class that isn't in use has nothing
    pub unused : (class : ℕ) → slice_index_or used class false ≡ false → (o : Bool) → o ≡ (o || list_any (is_met_in class area id) keys)
    unused class is o =
        sym (none_of (is_met_in class area id) (IsInUse used)
        (λ s used_is. both_ways _ _ (λ h. absurd (false≢true (sym is ∙ ap (λ k. slice_index_or used k false) (sym (eqb-true _ _ (and_parts _ _ h).0)) ∙ used_is))) (λ h. absurd (false≢true h)))
        keys in_use o)

    pub all_classes : (classes : ℕ) → ((k : ℕ) → slice_index_or used k false ≡ true → k < classes) → (o new : Bool) → new ≡ (o || list_any (λ s. nat_lt s.class classes && is_met area id s) keys) → new ≡ (o || list_any (is_met area id) keys)
    all_classes classes within o new is =
        is ∙ ap (λ b. o || b) (any_placed (IsInUse used) (λ s. nat_lt s.class classes && is_met area id s) (is_met area id)
        (λ s used_is. ap (λ b. b && is_met area id s) (lt-ltb (within s.class used_is))) keys in_use)
      where
        lt-ltb : {a b : ℕ} → a < b → nat_lt a b ≡ true
        lt-ltb {a} {b} h = grind (arith, nat_tests)

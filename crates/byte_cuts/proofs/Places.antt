-- A text cut at the first byte that passes a test.
use Rattle.std.proofs.Common.{◌≡◌, ℕ, suc, ◌+◌, Bool, true, false, not, ◌||◌, cond, ltb, Some, None, List, [], ◌∷◌, length, refl, sym, ◌∙◌, arith}
use Rattle.std.specs.List.{list_any, position, position_or_len}
use Rattle.std.proofs.lemmas.Bool.{lt-ltb}
use Rattle.std.proofs.lemmas.Bool.Decides.{nat_tests}
use Rattle.std.proofs.lemmas.Option.{cond_some}

step : (b r : Bool) (a n : ℕ) → r ≡ ltb a n → (b || r) ≡ ltb (cond (not b) (1 + a) 0) (suc n)
step true r a n e = sym (lt-ltb 0 (suc n) (omega arith))
step false r a n e = e ∙ shifted
  where
    shifted : ltb a n ≡ ltb (1 + a) (suc n)
    shifted = grind (arith, nat_tests)

list_any_is : {X : Type 0} (p : X → Bool) (xs : List X) → list_any p xs ≡ ltb (position_or_len p xs) (length xs)
list_any_is p [] = refl
list_any_is p (x ∷ xs) = step (p x) _ _ _ (list_any_is p xs)

pub record IsFoundAt {X : Type 0} (p : X → Bool) (xs : List X) (i : ℕ) : Type 0 where
  pub has : list_any p xs ≡ true
  pub first : position_or_len p xs ≡ i

pub found_at : {X : Type 0} (p : X → Bool) (xs : List X) (i : ℕ) → position p xs ≡ Some i → IsFoundAt p xs i
found_at p xs i e =
    let parts = cond_some (ltb (position_or_len p xs) (length xs)) (position_or_len p xs) i e in
    record { has = list_any_is p xs ∙ parts.0; first = parts.1 }

absent : (b : Bool) (n : ℕ) → cond b (Some n) None ≡ None → b ≡ false
absent true n e = cc
absent false n e = refl

pub not_found : {X : Type 0} (p : X → Bool) (xs : List X) → position p xs ≡ None → list_any p xs ≡ false
not_found p xs e = list_any_is p xs ∙ absent (ltb (position_or_len p xs) (length xs)) (position_or_len p xs) e

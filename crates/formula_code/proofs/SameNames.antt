-- Two texts are alike in small letters exactly where they are in capitals.
use Rattle.std.proofs.Common.{◌≡◌, ℕ, List, [], ◌∷◌, map, refl, arith}
use Rattle.std.specs.Char.{to_ascii_lowercase, to_ascii_uppercase}
use Rattle.std.proofs.lemmas.Bool.Decides.{nat_tests}

small_capital : (x y : ℕ) → to_ascii_lowercase x ≡ to_ascii_lowercase y → to_ascii_uppercase x ≡ to_ascii_uppercase y
small_capital x y e = grind (arith, nat_tests)

capital_small : (x y : ℕ) → to_ascii_uppercase x ≡ to_ascii_uppercase y → to_ascii_lowercase x ≡ to_ascii_lowercase y
capital_small x y e = grind (arith, nat_tests)

module _ (f g : ℕ → ℕ) (goes : (x y : ℕ) → f x ≡ f y → g x ≡ g y) where
  pub maps_alike : (xs ys : List ℕ) → map f xs ≡ map f ys → map g xs ≡ map g ys
  maps_alike [] [] e = refl
  maps_alike [] (y ∷ ys) e = cc
  maps_alike (x ∷ xs) [] e = cc
  maps_alike (x ∷ xs) (y ∷ ys) e =
      let first : g x ≡ g y = goes x y cc in
      let rest : map g xs ≡ map g ys = maps_alike xs ys cc in
      cc

pub alike_in_capitals : (xs ys : List ℕ) → map to_ascii_lowercase xs ≡ map to_ascii_lowercase ys → map to_ascii_uppercase xs ≡ map to_ascii_uppercase ys
alike_in_capitals = maps_alike to_ascii_lowercase to_ascii_uppercase small_capital

pub alike_in_small_letters : (xs ys : List ℕ) → map to_ascii_uppercase xs ≡ map to_ascii_uppercase ys → map to_ascii_lowercase xs ≡ map to_ascii_lowercase ys
alike_in_small_letters = maps_alike to_ascii_uppercase to_ascii_lowercase capital_small

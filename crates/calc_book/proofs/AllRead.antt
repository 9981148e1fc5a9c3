-- What was read of each item of a list, where all could be read.
use Rattle.std.proofs.Common.{◌≡◌, List, [], ◌∷◌, map, refl, ap, ◌∙◌}
use Rattle.std.specs.Prelude.{IfOk, Result, Ok, Err}
use Rattle.std.specs.List.{AllZip, Contains}
use Rattle.std.specs.Result.{MatchResult}

module _ {X Y Z : Type 0} (f : X → Z) (g : Y → Z) where
  all_read : (E : Type 0) (xs : List X) (ys : List Y) → AllZip (λ x (r : Result Y E). IfOk r (λ y. g y ≡ f x)) xs (map Ok ys) → map g ys ≡ map f xs
  all_read E [] [] all = refl
  all_read E [] (y ∷ ys) all = absurd all
  all_read E (x ∷ xs) [] all = absurd all
  all_read E (x ∷ xs) (y ∷ ys) all = ap (λ z. z ∷ map g ys) all.0 ∙ ap (λ zs. f x ∷ zs) (all_read E xs ys all.1)

  -- the items of a call's answer, where it is that of all
  pub read_in_all : {C E : Type 0} (items : C → List Y) (answer : Result C E) (xs : List X) (results : List (Result Y E)) → AllZip (λ x (r : Result Y E). IfOk r (λ y. g y ≡ f x)) xs results → MatchResult answer (λ c. (ys : List Y) × (results ≡ map Ok ys) × (items c ≡ ys)) (λ e. Contains results (Err e)) → IfOk answer (λ c. map g (items c) ≡ map f xs)
  read_in_all {E} items (Ok c) xs results all is = ap (map g) is.2 ∙ all_read E xs is.0 (rw is.1 at all)
  read_in_all items (Err e) xs results all is = tt

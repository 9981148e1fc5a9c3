-- Lists of columns by what they are seen as.
use Rattle.std.proofs.Common.{◌≡◌, ℕ, suc, zero, ◌<◌, List, [], ◌∷◌, length, map, Ok, Err, Result, refl, ap, ◌∙◌, arith}
use Rattle.std.proofs.lemmas.List.{set-get_or}
use Rattle.std.specs.Prelude.{OnErr, slice_index_or, slice_set}

module _ {X Y : Type 0} (f : X → Y) where
  pub map_set : (xs : List X) (i : ℕ) (y : X) → map f (slice_set xs i y) ≡ slice_set (map f xs) i (f y)
  map_set [] i y = refl
  map_set (x ∷ xs) zero y = refl
  map_set (x ∷ xs) (suc i) y = ap (λ t. f x ∷ t) (map_set xs i y)

  pub map_at : (xs : List X) (i : ℕ) (d : X) → f (slice_index_or xs i d) ≡ slice_index_or (map f xs) i (f d)
  map_at [] i d = refl
  map_at (x ∷ xs) zero d = refl
  map_at (x ∷ xs) (suc i) d = map_at xs i d

  -- an element that looks as the one before it
  pub map_same : (xs : List X) (i : ℕ) (y d : X) → f y ≡ f (slice_index_or xs i d) → map f (slice_set xs i y) ≡ map f xs
  map_same xs i y d same = map_set xs i y ∙ ap (slice_set (map f xs) i) (same ∙ map_at xs i d) ∙ set-get_or (map f xs) i (f d)

-- an element that is there is found whatever stands for those that aren't
pub index_any : {X : Type 0} (xs : List X) (i : ℕ) (d e : X) → i < length xs → slice_index_or xs i d ≡ slice_index_or xs i e
index_any [] i d e h = absurd (omega (arith, h))
index_any (x ∷ xs) zero d e h = refl
index_any (x ∷ xs) (suc i) d e h = index_any xs i d e (omega (arith, h))

pub length_map : {X Y : Type 0} (f : X → Y) (xs : List X) → length (map f xs) ≡ length xs
length_map f [] = refl
length_map f (x ∷ xs) = ap suc (length_map f xs)

pub err_so : {T E : Type 0} (r : Result T E) (P : Type 0) → P → OnErr r P
err_so (Ok x) P h = tt
err_so (Err x) P h = h

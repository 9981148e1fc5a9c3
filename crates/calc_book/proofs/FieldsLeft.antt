-- The fields of a record from a place on.
use Rattle.std.proofs.Common.{◌≡◌, ℕ, zero, suc, ◌+◌, ◌<◌, List, [], ◌∷◌, length, drop, Some, None, refl, sym, ap, ◌∙◌, arith}
use Rattle.csv.specs.Records.{field_at}

pub next_field : (fields : List (List ℕ)) (at : ℕ) (field : List ℕ) → field_at fields at ≡ Some field → drop at fields ≡ field ∷ drop (at + 1) fields
unfolding field_at
next_field [] at field is = cc
next_field (first ∷ rest) zero field is = let same : first ≡ field = cc in ap (λ f. f ∷ rest) same
next_field (first ∷ rest) (suc at) field is =
    let e : suc at + 1 ≡ suc (at + 1) = omega arith in
    next_field rest at field is ∙ ap (λ n. field ∷ drop n (first ∷ rest)) (sym e)

pub inside : (fields : List (List ℕ)) (at : ℕ) (field : List ℕ) → field_at fields at ≡ Some field → at < length fields
unfolding field_at
inside [] at field is = cc
inside (first ∷ rest) zero field is = omega arith
inside (first ∷ rest) (suc at) field is = omega (arith, inside rest at field is)

pub no_field : (fields : List (List ℕ)) (at : ℕ) → field_at fields at ≡ None → drop at fields ≡ []
unfolding field_at
no_field [] zero is = refl
no_field [] (suc at) is = refl
no_field (first ∷ rest) zero is = cc
no_field (first ∷ rest) (suc at) is = no_field rest at is

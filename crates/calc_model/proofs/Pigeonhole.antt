-- Counting the items of a list that pass a test, and what follows where a count can't grow: of two tests, where the
-- first implies the second and the counts are equal, the tests are; of rounds of tests, each of which passes what the
-- one before it did, one of the first passes all that the next one does.
use Rattle.std.proofs.Common.{◌≡◌, ℕ, zero, suc, ◌+◌, ◌<◌, ◌≤◌, nat_le, Bool, true, false, cond, List, [], ◌∷◌, length, get_or, Some, refl, sym, subst, arith, ◌⊎◌, inl, inr}
use Rattle.std.specs.List.{AllByRecursion, filter}
use Rattle.std.specs.FinMap.Entries.{find}
use Rattle.std.specs.Ordering.{eq_by_cmp}
use Rattle.std.specs.declared.cmp.Ordering.{Ordering}
use Rattle.std.proofs.lemmas.Bool.{leb-true}
use Rattle.std.proofs.lemmas.Bool.Decides.{nat_tests}

abbrev once : Bool → ℕ
once b = cond b 1 0

once_le : (a b : Bool) → (a ≡ true → b ≡ true) → once a ≤ once b
once_le true true i = omega arith
once_le true false i = let e : false ≡ true = i refl in absurd (cc)
once_le false b i = omega arith

once_within : (b : Bool) → once b ≤ 1
once_within true = omega arith
once_within false = omega arith

from_once : (a b : Bool) → once b ≤ once a → b ≡ true → a ≡ true
from_once true b le e = refl
from_once false true le e = absurd (omega arith)
from_once false false le e = e

once_more : (a b : Bool) → a ≡ false → b ≡ true → once a < once b
once_more true b not_f is = cc
once_more false true not_f is = omega arith
once_more false false not_f is = cc

module _ {X : Type 0} where
  -- how many items pass the test
  abbrev pub count : (X → Bool) → List X → ℕ
  count f xs = length (filter f xs)

  count-cons : (f : X → Bool) (x : X) (xs : List X) → count f (x ∷ xs) ≡ once (f x) + count f xs
  count-cons f x xs = elim (f x) as (λ b. length (cond b (x ∷ filter f xs) (filter f xs)) ≡ once b + count f xs) [ true ↦ omega arith | false ↦ omega arith ]

  pub count_within : (f : X → Bool) (xs : List X) → count f xs ≤ length xs
  count_within f [] = omega arith
  count_within f (x ∷ xs) = omega (arith, count-cons f x xs, once_within (f x), count_within f xs)

  module _ (f g : X → Bool) (implies : (x : X) → f x ≡ true → g x ≡ true) where
    pub count_le : (xs : List X) → count f xs ≤ count g xs
    count_le [] = omega arith
    count_le (x ∷ xs) = omega (arith, count-cons f x xs, count-cons g x xs, once_le (f x) (g x) (implies x), count_le xs)

    -- an item that only the second test passes counts once more
    pub count_lt : (xs : List X) (k : ℕ) (d : X) → k < length xs → f (get_or xs k d) ≡ false → g (get_or xs k d) ≡ true → count f xs < count g xs
    count_lt [] k d within not_f is = absurd (omega arith)
    count_lt (x ∷ xs) zero d within not_f is = omega (arith, count-cons f x xs, count-cons g x xs, once_more (f x) (g x) not_f is, count_le xs)
    count_lt (x ∷ xs) (suc k) d within not_f is = omega (arith, count-cons f x xs, count-cons g x xs, once_le (f x) (g x) (implies x), count_lt xs k d (omega arith) not_f is)

    -- where the second test passes no more items, each that it passes the first one passes
    pub same_counted : (xs : List X) → count g xs ≤ count f xs → AllByRecursion (λ x. g x ≡ true → f x ≡ true) xs
    same_counted [] le = tt
    same_counted (x ∷ xs) le =
        let head : once (g x) ≤ once (f x) = omega (arith, count-cons f x xs, count-cons g x xs, count_le xs) in
        let rest : count g xs ≤ count f xs = omega (arith, count-cons f x xs, count-cons g x xs, once_le (f x) (g x) (implies x)) in
        (from_once (f x) (g x) head, same_counted xs rest)

more_lt : (m n k : ℕ) → nat_le m n ≡ false → k ≤ n → suc k ≤ m
more_lt m n k h le = grind (arith, nat_tests)

module _ {X : Type 0} (xs : List X) (round : ℕ → X → Bool) (bound : ℕ) (bounded : (k : ℕ) → count (round k) xs ≤ bound) where
  -- a round after which the next one passes no more items
  abbrev pub IsFull : ℕ → Type 0
  IsFull k = count (round (suc k)) xs ≤ count (round k) xs

  counted : (k : ℕ) → ((j : ℕ) × (j ≤ k) × IsFull j) ⊎ (k ≤ count (round k) xs)
  counted zero = inr (omega arith)
  counted (suc k) =
      elim (counted k) [
        | inl full ↦ inl (full.0, omega arith, full.2)
        | inr few ↦ elim (nat_le (count (round (suc k)) xs) (count (round k) xs)) as (λ b. nat_le (count (round (suc k)) xs) (count (round k) xs) ≡ b → ((j : ℕ) × (j ≤ suc k) × IsFull j) ⊎ (suc k ≤ count (round (suc k)) xs)) [
          | true ↦ λ no_more. inl (k, omega arith, leb-true (count (round (suc k)) xs) (count (round k) xs) no_more)
          | false ↦ λ more. inr (more_lt (count (round (suc k)) xs) (count (round k) xs) k more few)
        ] refl
      ]

  -- one of the first rounds, no more than one past the bound, is such a one
  pub full_round : (j : ℕ) × (j ≤ bound + 1) × IsFull j
  full_round =
      elim (counted (suc bound)) [
        | inl full ↦ (full.0, omega arith, full.2)
        | inr many ↦ absurd (omega (arith, many, bounded (suc bound)))
      ]

-- what each entry of a list passes, the entry passes that a search finds
pub found_passes : {K X : Type 0} (R : K → K → Ordering) (exact : (a b : K) → eq_by_cmp R a b ≡ true → a ≡ b) (P : K × X → Type 0) (es : List (K × X)) (q : K) (x : X) → AllByRecursion P es → find R q es ≡ Some x → P (q, x)
found_passes R exact P [] q x all at = cc
found_passes {K} {X} R exact P (e ∷ es) q x all at =
    elim (eq_by_cmp R q e.0) as (λ b. eq_by_cmp R q e.0 ≡ b → cond b (Some e.1) (find R q es) ≡ Some x → P (q, x)) [
      | true ↦ λ tied here.
          let same : e.1 ≡ x = cc in
          subst (λ (k : K). P (k, x)) (sym (exact q e.0 tied)) (subst (λ (y : X). P (e.0, y)) same all.0)
      | false ↦ λ apart later. found_passes R exact P es q x all.1 later
    ] refl at

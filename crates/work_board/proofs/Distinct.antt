-- Distinct numbers below a bound are at most as many as the bound.
use Rattle.std.proofs.Common.{◌≡◌, ℕ, zero, suc, ◌+◌, ◌<◌, ◌≤◌, ltb, eqb, cond, List, [], ◌∷◌, length, count_by, refl, ap, arith, eq-eqb}
use Rattle.std.proofs.lemmas.List.Sums.{sum_by-cons}
use Rattle.std.proofs.lemmas.Bool.Decides.{nat_tests}
use Rattle.work_board.specs.Counts.{times, once_below}

none_below : (x : ℕ) → ◌≡◌ {A = ℕ} (cond (ltb x 0) 1 0) 0
none_below x = grind (arith, nat_tests)

one_more : (x n : ℕ) → cond (ltb x (suc n)) 1 0 ≡ cond (ltb x n) 1 0 + cond (eqb x n) 1 0
one_more x n = grind (arith, nat_tests)

pub is_below : (x n : ℕ) → x < n → ◌≡◌ {A = ℕ} (cond (ltb x n) 1 0) 1
is_below x n below = grind (arith, nat_tests)

count_none : (xs : List ℕ) → count_by (λ y. ltb y 0) xs ≡ 0
count_none [] = refl
count_none (x ∷ xs) = omega (arith, sum_by-cons (λ y. cond (ltb y 0) 1 0) x xs, none_below x, count_none xs)

count_more : (xs : List ℕ) (n : ℕ) → count_by (λ y. ltb y (suc n)) xs ≡ count_by (λ y. ltb y n) xs + times n xs
count_more [] n = refl
count_more (x ∷ xs) n =
    omega (arith, sum_by-cons (λ y. cond (ltb y (suc n)) 1 0) x xs, sum_by-cons (λ y. cond (ltb y n) 1 0) x xs, sum_by-cons (λ y. cond (eqb y n) 1 0) x xs, one_more x n, count_more xs n)

few : (xs : List ℕ) → ((k : ℕ) → times k xs ≤ 1) → (n : ℕ) → count_by (λ y. ltb y n) xs ≤ n
few xs once zero = omega (arith, count_none xs)
few xs once (suc n) = omega (arith, count_more xs n, few xs once n, once n)

all_below : (xs : List ℕ) (n : ℕ) → ((k : ℕ) → 0 < times k xs → k < n) → count_by (λ y. ltb y n) xs ≡ length xs
all_below [] n below = refl
all_below (x ∷ xs) n below =
    let itself : ◌≡◌ {A = ℕ} (cond (eqb x x) 1 0) 1 = ap (λ b. cond b 1 0) (eq-eqb x x refl) in
    let here = is_below x n (below x (omega (arith, itself, sum_by-cons (λ y. cond (eqb y x) 1 0) x xs))) in
    let rest = all_below xs n (λ k h. below k (omega (arith, h, sum_by-cons (λ y. cond (eqb y k) 1 0) x xs))) in
    omega (arith, here, rest, sum_by-cons (λ y. cond (ltb y n) 1 0) x xs)

pub at_most_one : (k n : ℕ) → once_below k n ≤ 1
at_most_one k n = grind (arith, nat_tests)

pub below : (k n : ℕ) → 0 < once_below k n → k < n
below k n some_ = grind (arith, nat_tests)

pub at_most : (xs : List ℕ) (n : ℕ) → ((k : ℕ) → times k xs ≤ once_below k n) → length xs ≤ n
at_most xs n once =
    omega (arith, few xs (λ k. let o = once k in omega (arith, o, at_most_one k n)) n, all_below xs n (λ k some_. below k n (let o = once k in omega arith)))

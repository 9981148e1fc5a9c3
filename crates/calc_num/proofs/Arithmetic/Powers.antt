-- How a repeated product goes on.
use Rattle.std.proofs.Common.{◌≡◌, ℕ, zero, suc, ◌+◌, ◌-◌, ◌<◌, ◌≤◌, ℤ, Result, Ok, Err, refl, subst, arith, add-zero}
use Rattle.calc_num.specs.declared.num.NumFault.{NumFault}
use Rattle.calc_num.specs.Decimals.{mul, ◌>>=◌, repeated_product}

pub repeated_product-suc : (n : ℤ) (count : ℕ) → repeated_product n (suc count) ≡ (repeated_product n count >>= (λ before. mul before n))
unfolding repeated_product
repeated_product-suc n count = refl

after : (n : ℤ) (outcome : Result ℤ NumFault) (count more : ℕ) → (outcome >>= (λ before. mul before n)) ≡ outcome → repeated_product n count ≡ outcome → repeated_product n (count + more) ≡ outcome
after n outcome count zero steady is = rw add-zero is
after n outcome count (suc more) steady is =
    let next : count + suc more ≡ suc (count + more) = omega arith in
    rw (next, repeated_product-suc n (count + more), after n outcome count more steady is) steady

-- what a further step doesn't change stays
pub repeated_product-steady : (n : ℤ) (outcome : Result ℤ NumFault) (count most : ℕ) → (outcome >>= (λ before. mul before n)) ≡ outcome → repeated_product n count ≡ outcome → count ≤ most → repeated_product n most ≡ outcome
repeated_product-steady n outcome count most steady is within =
    let sum : count + (most - count) ≡ most = omega arith in
    subst (λ k. repeated_product n k ≡ outcome) sum (after n outcome count (most - count) steady is)

pub repeated_product-more : (n before : ℤ) (outcome : Result ℤ NumFault) (count : ℕ) → repeated_product n count ≡ Ok before → mul before n ≡ outcome → repeated_product n (count + 1) ≡ outcome
repeated_product-more n before outcome count is next =
    let one : count + 1 ≡ suc count = omega arith in
    rw (one, repeated_product-suc n count, is) next

-- a fault stays
pub repeated_product-fails : (n before : ℤ) (fault : NumFault) (count most : ℕ) → repeated_product n count ≡ Ok before → mul before n ≡ Err fault → count < most → repeated_product n most ≡ Err fault
repeated_product-fails n before fault count most is next within =
    repeated_product-steady n (Err fault) (count + 1) most refl (repeated_product-more n before (Err fault) count is next) (omega arith)

-- so does a number that a further step doesn't change
pub repeated_product-settles : (n before : ℤ) (count most : ℕ) → repeated_product n count ≡ Ok before → mul before n ≡ Ok before → count < most → repeated_product n most ≡ Ok before
repeated_product-settles n before count most is next within =
    repeated_product-steady n (Ok before) count most next is (omega arith)

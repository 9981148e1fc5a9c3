-- The least number that passes a test, and the least root.
use Rattle.std.proofs.Common.{◌≡◌, ℕ, zero, suc, ◌+◌, ◌-◌, ◌*◌, ◌^◌, ◌<◌, ◌≤◌, Bool, true, false, ℤ, pos, negsuc, unsigned_abs, Ok, inl, inr, ap, ◌∙◌, sym, arith}
use lib.Signed.{lt_z}
use Rattle.std.proofs.Math.Nat.{pow-suc, one-le-pow}
use Rattle.std.proofs.lemmas.Bool.{cond-true, cond-false, false≢true, cases_lt, lt-ltb, le-ltb}
use Rattle.std.proofs.lemmas.Nat.{mul-le}
use Rattle.calc_num.specs.Decimals.{least, is_past_root, sqrt, IsLeastRoot}

-- halving finds the number from which on a test passes
pub least-is : (test : ℕ → Bool) (low halvings n : ℕ) → low ≤ n → n < low + 2 ^ halvings → ((k : ℕ) → k < n → test k ≡ false) → ((k : ℕ) → n ≤ k → test k ≡ true) → least test low halvings ≡ n
unfolding least
least-is test low zero n from within below above = omega arith
least-is test low (suc halvings) n from within below above =
    let middle = low + (2 ^ halvings - 1) in
    let some = one-le-pow halvings 2 (omega arith) in
    let power = pow-suc 2 halvings in
    elim (cases_lt middle n) [
      | inl past ↦
          ap (λ from. least test from halvings) (cond-false (test middle) low (low + 2 ^ halvings) (below middle past)) ∙ least-is test (low + 2 ^ halvings) halvings n (omega arith) (omega arith) below above
      | inr here ↦
          ap (λ from. least test from halvings) (cond-true (test middle) low (low + 2 ^ halvings) (above middle here)) ∙ least-is test low halvings n from (omega arith) below above
    ]

-- a number whose product with the next is below a square is below 2^60
pub below_root : (square root : ℕ) → square < 10 ^ 36 → root * (root + 1) < square → root < 2 ^ 60
below_root square root small under =
    elim (cases_lt root (2 ^ 60)) [
      | inl below ↦ below
      | inr above ↦ absurd (omega (arith, mul-le (2 ^ 60) (2 ^ 60) root root above above))
    ]

-- where a number's product with the one before it is below a square, no root of it is less
pub root_from : (square root r : ℕ) → root * root < square + root → square ≤ r * (r + 1) → root ≤ r
root_from square zero r under past = omega arith
root_from square (suc k) r under past =
    elim (cases_lt r (suc k)) [
      | inl below ↦ absurd (omega (arith, mul-le r (r + 1) k (k + 1) (omega arith) (omega arith)))
      | inr above ↦ above
    ]

-- the test of a root, and the root's whole product with the next number
past-from : (n r : ℕ) → n * 10 ^ 9 ≤ r * (r + 1) → 4 * n * 10 ^ 9 < (2 * r + 1) * (2 * r + 1)
past-from n r past = omega arith

from-past : (n r : ℕ) → 4 * n * 10 ^ 9 < (2 * r + 1) * (2 * r + 1) → n * 10 ^ 9 ≤ r * (r + 1)
from-past n r past = omega arith

-- what makes a number the root
pub root_is_least : (z : ℤ) (root : ℕ) → unsigned_abs z * 10 ^ 9 ≤ root * (root + 1) → ((r : ℕ) → unsigned_abs z * 10 ^ 9 ≤ r * (r + 1) → root ≤ r) → IsLeastRoot z (pos root)
root_is_least z root past least = record {
  past = past-from (unsigned_abs z) root past;
  least = λ r beyond. least r (from-past (unsigned_abs z) r beyond);
}

least_root-is : (n root : ℕ) → n < 10 ^ 27 → n * 10 ^ 9 ≤ root * (root + 1) → ((r : ℕ) → n * 10 ^ 9 ≤ r * (r + 1) → root ≤ r) → least (is_past_root n) 0 60 ≡ root
least_root-is n root small past least =
    least-is (is_past_root n) 0 60 root (omega arith) (omega (arith, least (2 ^ 60 - 1) (omega arith)))
    (λ k below. elim (cases_lt (4 * n * 10 ^ 9) ((2 * k + 1) * (2 * k + 1))) [
      | inl beyond ↦ absurd (omega (arith, least k (from-past n k beyond)))
      | inr under ↦ le-ltb (4 * n * 10 ^ 9) ((2 * k + 1) * (2 * k + 1)) under
    ])
    (λ k above. lt-ltb (4 * n * 10 ^ 9) ((2 * k + 1) * (2 * k + 1)) (past-from n k (omega (arith, mul-le root (root + 1) k (k + 1) above (omega arith)))))

pub sqrt_is_root : (z : ℤ) (root : ℕ) → lt_z z (pos 0) ≡ false → unsigned_abs z < 10 ^ 27 → unsigned_abs z * 10 ^ 9 ≤ root * (root + 1) → ((r : ℕ) → unsigned_abs z * 10 ^ 9 ≤ r * (r + 1) → root ≤ r) → Ok (pos root) ≡ sqrt z
sqrt_is_root (pos n) root not_below small past least = ap (λ r. Ok (pos r)) (sym (least_root-is n root small past least))
sqrt_is_root (negsuc n) root not_below small past least = absurd (false≢true (sym not_below))

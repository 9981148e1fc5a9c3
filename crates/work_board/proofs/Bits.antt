-- What setting one bit does to the words.
use Rattle.std.proofs.Common.{◌≡◌, ◌≢◌, ℕ, ◌*◌, ◌/◌, ◌%◌, ◌^◌, ◌<◌, eqb, List, length, set, get_or, sym, ap, ◌∙◌, arith, get_or-set_same}
use Rattle.std.proofs.lemmas.List.{get_or-set_other}
use Rattle.std.proofs.lemmas.Nat.{div-add-mod'}
use Rattle.std.proofs.lemmas.Nat.Bits.{bit_at_or, bit_at-pow_same, bit_at-pow_other, bit_at-lt}
use Rattle.std.specs.Int.{bit_at}
use Rattle.std.specs.Int.Bits.{bit_or}
use Rattle.std.proofs.Math.Pow.{pow-lt}
use Rattle.std.proofs.Math.Nat.{mod-eq_of_lt}
use Rattle.std.proofs.lemmas.Nat.{pow_pos}
use Rattle.std.proofs.lemmas.Bool.{ne_eqb}
use Rattle.std.proofs.lemmas.Nat.Bits.{and_pow}
use Rattle.std.specs.Int.Bits.{bit_and}
use mathlib.Core.Logic.{dite}
use native.Mathlib.Decide.{ℕ_discrete}
use Rattle.work_board.specs.Rules.{bit_of}

pub same_power : (a b : ℕ) → 2 ^ a ≡ 2 ^ b → a ≡ b
same_power a b e = dite (ℕ_discrete a b) (λ h. h) (λ n. absurd (let one = bit_at-pow_same a in let none_ = bit_at-pow_other b a n in let same : bit_at (2 ^ a) a ≡ bit_at (2 ^ b) a = ap (λ m. bit_at m a) e in omega arith))

-- a bit's word and its place in it tell which bit it is
pub same_bit : (a b : ℕ) → a / 64 ≡ b / 64 → a % 64 ≡ b % 64 → a ≡ b
same_bit a b words places = omega (arith, div-add-mod' a 64, div-add-mod' b 64)

-- the words once the bit is set
abbrev pub with_bit : List ℕ → ℕ → List ℕ
with_bit words bit = set words (bit / 64) (bit_or (get_or words (bit / 64) 0) (2 ^ (bit % 64)))

-- setting one bit
module _ (words : List ℕ) (bit : ℕ) (inside : bit / 64 < length words) where
  here : (k : ℕ) → k / 64 ≡ bit / 64 → bit_of (with_bit words bit) k ≡ bit_at (bit_or (get_or words (bit / 64) 0) (2 ^ (bit % 64))) (k % 64)
  here k same = ap (λ n. bit_at n (k % 64)) (ap (λ i. get_or (with_bit words bit) i 0) same ∙ get_or-set_same words (bit / 64) (bit_or (get_or words (bit / 64) 0) (2 ^ (bit % 64))) 0 inside)

  pub bit_here : bit_of (with_bit words bit) bit ≡ 1
  bit_here =
      omega (arith, here bit (λ _. bit / 64), bit_at_or (get_or words (bit / 64) 0) (2 ^ (bit % 64)) (bit % 64), bit_at-pow_same (bit % 64), bit_at-lt (get_or words (bit / 64) 0) (bit % 64))

  pub bit_else : (k : ℕ) → k ≢ bit → bit_of (with_bit words bit) k ≡ bit_of words k
  bit_else k apart = dite (ℕ_discrete (k / 64) (bit / 64))
      (λ same.
      let old : bit_of words k ≡ bit_at (get_or words (bit / 64) 0) (k % 64) = ap (λ i. bit_at (get_or words i 0) (k % 64)) same in
      let none = bit_at-pow_other (bit % 64) (k % 64) (λ e. apart (same_bit k bit same e)) in
      omega (arith, old, none, here k same, bit_at_or (get_or words (bit / 64) 0) (2 ^ (bit % 64)) (k % 64)))
      (λ other. ap (λ n. bit_at n (k % 64)) (get_or-set_other words (bit / 64) (k / 64) (bit_or (get_or words (bit / 64) 0) (2 ^ (bit % 64))) 0 other))

-- the mask of a bit is a power of two
pub mask : (bit : ℕ) → 1 * 2 ^ (bit % 64) % 18446744073709551616 ≡ 2 ^ (bit % 64)
mask bit =
    let place : bit % 64 < 64 = omega arith in
    let fits : 2 ^ (bit % 64) < 18446744073709551616 = pow-lt place in
    omega (arith, mod-eq_of_lt fits)

-- the mask finds the bit clear exactly where it is
pub clear : (n bit : ℕ) → eqb (bit_and n (1 * 2 ^ (bit % 64) % 18446744073709551616)) 0 ≡ eqb (bit_at n (bit % 64)) 0
clear n bit =
    let k : ℕ = bit % 64 in
    let both : bit_and n (1 * 2 ^ (bit % 64) % 18446744073709551616) ≡ bit_at n k * 2 ^ k = ap (bit_and n) (mask bit) ∙ and_pow n k in
    let small = bit_at-lt n k in
    let some_ = pow_pos k in
    dite (ℕ_discrete (bit_at n k) 0)
    (λ none. let z : bit_at n k * 2 ^ k ≡ 0 = ap (λ b. b * 2 ^ k) none ∙ omega arith in ap (λ m. eqb m 0) (both ∙ z) ∙ sym (ap (λ m. eqb m 0) none))
    (λ one. let is : bit_at n k ≡ 1 = omega arith in let p : bit_at n k * 2 ^ k ≡ 2 ^ k = ap (λ b. b * 2 ^ k) is ∙ omega arith in
    ap (λ m. eqb m 0) (both ∙ p) ∙ ne_eqb (2 ^ k) 0 (λ e. omega arith) ∙ sym (ne_eqb (bit_at n k) 0 one))

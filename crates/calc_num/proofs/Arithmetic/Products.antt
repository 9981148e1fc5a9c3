-- Rounded products and quotients of sizes, and their signs.
use Rattle.std.proofs.Common.{◌≡◌, ℕ, zero, suc, ◌+◌, ◌*◌, ◌/◌, ◌%◌, ◌^◌, ◌<◌, ◌≤◌, min, true, false, not, ℤ, pos, negsuc, nat_abs, refl, ap, ◌∙◌, sym, arith}
use mathlib.Core.Bool.{beq}
use lib.Signed.{lt_z}
use Rattle.std.proofs.Math.Nat.{mul-add-div_right, mul-add-mod_self_right, mul-div-mul_left}
use Rattle.std.proofs.lemmas.Nat.{div-add-mod'}
use Rattle.calc_num.specs.Decimals.{rounded, nearest, checked, with_sign, div}
use Rattle.calc_num.proofs.ReadNumbers.Scale.{rounded-scaled}
use Rattle.calc_num.proofs.Arithmetic.Signs.{not_below_zero, neg-neg, checked-rounded}

-- for an even divisor half of it is added
pub rounded-even : (p h : ℕ) → 0 < h → rounded p (2 * h) ≡ (p + h) / (2 * h)
rounded-even p h some =
    let top : 2 * p + 2 * h ≡ 2 * (p + h) = omega arith in
    rw top (mul-div-mul_left {m = 2} (p + h) (2 * h) (omega arith))

-- a product by the whole part of its first factor and the rest of that
pub split_product : (a b u h : ℕ) → 0 < u → (a * b + h) / u ≡ a / u * b + (a % u * b + h) / u
split_product a b u h some =
    let parts : a * b + h ≡ a / u * b * u + (a % u * b + h) =
    ap (λ n. n * b + h) (sym (div-add-mod' a u)) ∙ omega arith in
    rw parts (mul-add-div_right {m = u} some (a / u * b) (a % u * b + h))

-- and by the parts of both factors
split_second : (a b u h : ℕ) → 0 < u → (a * b + h) / u ≡ a * (b / u) + (a * (b % u) + h) / u
split_second a b u h some =
    let parts : a * b + h ≡ a * (b / u) * u + (a * (b % u) + h) =
    ap (λ n. a * n + h) (sym (div-add-mod' b u)) ∙ omega arith in
    rw parts (mul-add-div_right {m = u} some (a * (b / u)) (a * (b % u) + h))

pub product_parted : (a b : ℕ) → rounded (a * b) (10 ^ 9) ≡ a / 10 ^ 9 * b + (a % 10 ^ 9 * (b / 10 ^ 9) + (a % 10 ^ 9 * (b % 10 ^ 9) + 5 * 10 ^ 8) / 10 ^ 9)
product_parted a b =
    rounded-even (a * b) (5 * 10 ^ 8) (omega arith) ∙ split_product a b (10 ^ 9) (5 * 10 ^ 8) (omega arith) ∙ ap (λ n. a / 10 ^ 9 * b + n) (split_second (a % 10 ^ 9) b (10 ^ 9) (5 * 10 ^ 8) (omega arith))

-- the same in four products
pub product_in_four : (a b : ℕ) → a / 10 ^ 9 * (b / 10 ^ 9) * 10 ^ 9 + (a / 10 ^ 9 * (b % 10 ^ 9) + a % 10 ^ 9 * (b / 10 ^ 9)) + (a % 10 ^ 9 * (b % 10 ^ 9) + 5 * 10 ^ 8) / 10 ^ 9 ≡ rounded (a * b) (10 ^ 9)
product_in_four a b =
    let whole : a / 10 ^ 9 * b ≡ a / 10 ^ 9 * (b / 10 ^ 9 * 10 ^ 9 + b % 10 ^ 9) = ap (λ n. a / 10 ^ 9 * n) (sym (div-add-mod' b (10 ^ 9))) in
    omega (arith, product_parted a b)

-- which is at the limit where the whole parts' product is too large
pub product_large : (a b : ℕ) → 10 ^ 18 ≤ a / 10 ^ 9 * (b / 10 ^ 9) → 10 ^ 27 ≡ min (rounded (a * b) (10 ^ 9)) (10 ^ 27)
product_large a b large = omega (arith, product_in_four a b)

-- where the divisor is a multiple, the fraction is reduced
pub rounded_reduced : (a b u v : ℕ) → 0 < u → b % u ≡ 0 → rounded (a * (v * u)) b ≡ rounded (a * v) (b / u)
rounded_reduced a b u v some whole =
    let top : a * (v * u) ≡ u * (a * v) = omega arith in
    let bottom : b ≡ u * (b / u) = sym (div-add-mod' b u) ∙ rw whole (omega arith) in
    rw top (ap (rounded (u * (a * v))) bottom ∙ rounded-scaled u (a * v) (b / u) some)

pub div_of_sizes : (n m : ℤ) → (nat_abs m ≡ 0 → ⊥) → checked (with_sign (not (beq (lt_z n (pos 0)) (lt_z m (pos 0)))) (min (rounded (nat_abs n * 10 ^ 9) (nat_abs m)) (10 ^ 27))) ≡ div n m
div_of_sizes n (pos zero) some = absurd (some refl)
div_of_sizes (pos n) (pos (suc m)) some =
    rw (not_below_zero n, not_below_zero (suc m)) (checked-rounded false (n * 10 ^ 9) (suc m) (omega arith))
div_of_sizes (negsuc n) (pos (suc m)) some =
    rw (not_below_zero (suc m)) (checked-rounded true (suc n * 10 ^ 9) (suc m) (omega arith))
div_of_sizes (pos n) (negsuc m) some =
    rw (not_below_zero n) (checked-rounded true (n * 10 ^ 9) (suc m) (omega arith))
div_of_sizes (negsuc n) (negsuc m) some =
    checked-rounded false (suc n * 10 ^ 9) (suc m) (omega arith) ∙ ap (λ p. checked (nearest p (suc m))) (sym (neg-neg (suc n * 10 ^ 9)))

-- a division in two steps: of the front alone, and of what that leaves with the last part behind it
split_parts : (s d w : ℕ) → s / w / d * w * d + (s / w % d * w + s % w) ≡ s
split_parts s d w =
    let front : s / w / d * w * d + s / w % d * w ≡ (s / w / d * d + s / w % d) * w = omega arith in
    omega (arith, front, ap (λ n. n * w) (div-add-mod' (s / w) d), div-add-mod' s w)

pub divided_in_steps : (s d w : ℕ) → 0 < d → s / w / d * w + (s / w % d * w + s % w) / d ≡ s / d
divided_in_steps s d w some =
    sym (mul-add-div_right {m = d} some (s / w / d * w) (s / w % d * w + s % w)) ∙ ap (λ n. n / d) (split_parts s d w)

pub rest_in_steps : (s d w : ℕ) → (s / w % d * w + s % w) % d ≡ s % d
rest_in_steps s d w =
    sym (mul-add-mod_self_right (s / w / d * w) d (s / w % d * w + s % w)) ∙ ap (λ n. n % d) (split_parts s d w)

-- Numbers as a sign and a size.
use Rattle.std.proofs.Common.{◌≡◌, ℕ, zero, suc, ◌+◌, ◌*◌, ◌^◌, ◌<◌, ◌≤◌, min, ltb, Bool, true, false, if◌then◌else◌, ℤ, pos, negsuc, neg_ℤ, nat_abs, ◌*ℤ◌, Ok, Err, inl, inr, refl, ap, ◌∙◌, sym, arith}
use lib.Signed.{lt_z}
use Rattle.std.proofs.Math.Nat.{min-eq_left, min-eq_right, div-eq_of_lt}
use Rattle.std.proofs.lemmas.Bool.{cond-false, cases_lt, le-ltb}
use Rattle.calc_num.specs.declared.num.NumFault.TheVariants.{Over}
use Rattle.calc_num.specs.Decimals.{rounded, nearest, is_raw, checked, with_sign}

pub not_below_zero : (n : ℕ) → ltb n 0 ≡ false
not_below_zero n = le-ltb n 0 (omega arith)

pub neg-neg : (n : ℕ) → neg_ℤ (neg_ℤ (pos n)) ≡ pos n
neg-neg zero = refl
neg-neg (suc n) = refl

-- the sign may be put before or behind the rounding
pub nearest-sign : (negative : Bool) (p q : ℕ) → 0 < q → nearest (with_sign negative p) q ≡ with_sign negative (rounded p q)
nearest-sign false p q some = refl
nearest-sign true zero q some =
    let none : rounded 0 q ≡ 0 = div-eq_of_lt {n = 2 * 0 + q} {m = 2 * q} (omega arith) in
    ap pos none ∙ ap (λ r. neg_ℤ (pos r)) (sym none)
nearest-sign true (suc p) q some = refl

pub is_raw-sign : (negative : Bool) (n : ℕ) → is_raw (with_sign negative n) ≡ ltb n (10 ^ 27)
is_raw-sign false n = refl
is_raw-sign true zero = refl
is_raw-sign true (suc n) = refl

-- a size may be kept at the limit, since it is out of range there
size-too_large : {X : Type 0} (some : ℤ → X) (none : X) (negative : Bool) (size : ℕ) → 10 ^ 27 ≤ size → (if is_raw (with_sign negative size) then some (with_sign negative size) else none) ≡ none
size-too_large some none negative size large =
    cond-false _ _ _ (is_raw-sign negative size ∙ le-ltb size (10 ^ 27) large)

pub size-limited : {X : Type 0} (some : ℤ → X) (none : X) (negative : Bool) (size : ℕ) → (if is_raw (with_sign negative (min size (10 ^ 27))) then some (with_sign negative (min size (10 ^ 27))) else none) ≡ (if is_raw (with_sign negative size) then some (with_sign negative size) else none)
size-limited some none negative size =
    elim (cases_lt size (10 ^ 27)) [
      | inl below ↦
          ap (λ n. if is_raw (with_sign negative n) then some (with_sign negative n) else none) (min-eq_left {n = size} {m = 10 ^ 27} (omega arith))
      | inr above ↦
          size-too_large some none negative (min size (10 ^ 27)) (omega (arith, min-eq_right {n = 10 ^ 27} {m = size} above)) ∙ sym (size-too_large some none negative size above)
    ]

-- a rounded size with its sign is the rounded number
pub checked-rounded : (negative : Bool) (p q : ℕ) → 0 < q → checked (with_sign negative (min (rounded p q) (10 ^ 27))) ≡ checked (nearest (with_sign negative p) q)
checked-rounded negative p q some =
    size-limited Ok (Err Over) negative (rounded p q) ∙ ap checked (sym (nearest-sign negative p q some))

-- a number is its size with its sign
pub sign-size : (n : ℤ) → with_sign (lt_z n (pos 0)) (nat_abs n) ≡ n
sign-size (pos n) = rw (not_below_zero n) refl
sign-size (negsuc n) = refl

pub times-sign : (negative : Bool) (count unit : ℕ) → with_sign negative (count * unit) ≡ with_sign negative count *ℤ pos unit
times-sign false count unit = refl
times-sign true zero unit = let none : 0 * unit ≡ 0 = omega arith in rw none refl
times-sign true (suc count) unit = refl

-- How a size grows by a digit, and what rounds it.
use Rattle.std.proofs.Common.{◌≡◌, ℕ, suc, ◌+◌, ◌-◌, ◌*◌, ◌^◌, ◌<◌, ◌≤◌, min, Bool, true, List, [], ◌∷◌, ◌++◌, length, take, drop, get_or, map, Some, inl, inr, refl, ap, ◌∙◌, sym, arith}
use Rattle.std.specs.Char.{is_ascii_digit}
use Rattle.std.specs.List.{fold, list_all, range_with_len}
use Rattle.std.proofs.Math.Nat.{pow-suc, one-le-pow, mul-div-mul_left, le-div_iff_mul-le, div-eq_of_lt-le, mul-le-mul_right, le-mul_of_pos_right, pow-le-pow_right, min-eq_left, min-eq_right}
use Rattle.std.proofs.lemmas.Bool.{and_parts, leb-true, cases_lt}
use Rattle.std.proofs.lemmas.List.{append_assoc, take-append-drop}
use Rattle.std.proofs.lemmas.List.Folds.{list_all-append}
use Rattle.std.proofs.lemmas.List.FromFn.{get_or-map-range_with_len}
use Rattle.std.proofs.lemmas.List.Sums.{fold-append}
use Rattle.calc_num.specs.Decimals.{rounded}
use Rattle.calc_num.specs.Scaling.{worth}
use Rattle.calc_num.specs.Spelling.{digits_number}
use Rattle.calc_num.specs.declared.tens.TheConstants.{POWERS}

pub power_some : (k : ℕ) → 1 ≤ 10 ^ k
power_some k = one-le-pow k 10 (omega arith)

-- the table of powers
pub powers_of_ten : (k : ℕ) → k ≤ 18 → get_or POWERS k 0 ≡ 10 ^ k
powers_of_ten k within =
    let table : POWERS ≡ map (λ i. 10 ^ i) (range_with_len 0 19) = refl in
    ap (λ powers. get_or powers k 0) table ∙ get_or-map-range_with_len (λ i. 10 ^ i) 0 19 k k 0 (omega arith) (omega arith)

-- both sides of a fraction may be multiplied by one number
pub rounded-scaled : (a p q : ℕ) → 0 < a → rounded (a * p) (a * q) ≡ rounded p q
rounded-scaled a p q some =
    let top : 2 * (a * p) + a * q ≡ a * (2 * p + q) = omega arith in
    let bottom : 2 * (a * q) ≡ a * (2 * q) = omega arith in
    rw (top, bottom) (mul-div-mul_left (2 * p + q) (2 * q) some)

pub rounded-whole : (p : ℕ) → rounded p 1 ≡ p
rounded-whole p = div-eq_of_lt-le {k = p} 2 (omega arith) (omega arith)

-- what is left of a multiple is rounded away where it is less than half, and else up
pub rounded-below_half : (u m q : ℕ) → 2 * m < q → rounded (u * q + m) q ≡ u
rounded-below_half u m q below = div-eq_of_lt-le {k = u} (2 * q) (omega arith) (omega arith)

pub rounded-from_half : (u m q : ℕ) → m < q → q ≤ 2 * m → rounded (u * q + m) q ≡ u + 1
rounded-from_half u m q small above = div-eq_of_lt-le {k = u + 1} (2 * q) (omega arith) (omega arith)

-- a digit byte is one of `0` to `9`
pub digit_range : (c : ℕ) → is_ascii_digit c ≡ true → (48 ≤ c) × (c ≤ 57)
digit_range c is =
    let parts = and_parts _ _ is in
    (leb-true 48 c parts.0, leb-true c 57 parts.1)

-- digits behind a number
pub digits_behind : (n : ℕ) (ds : List ℕ) → fold (λ number digit. 10 * number + (digit - 48)) n ds ≡ n * 10 ^ length ds + digits_number ds
digits_behind n [] = omega arith
digits_behind n (d ∷ ds) =
    let more = digits_behind (10 * n + (d - 48)) ds in
    let alone = digits_behind (10 * 0 + (d - 48)) ds in
    more ∙ rw (pow-suc 10 (length ds), alone) (omega arith)

-- the digits on both sides of the point as one number
pub both_sides : (ds fs : List ℕ) → digits_number (ds ++ fs) ≡ digits_number ds * 10 ^ length fs + digits_number fs
both_sides ds fs =
    fold-append (λ number digit. 10 * number + (digit - 48)) 0 ds fs ∙ digits_behind (digits_number ds) fs

pub digits_number-cons : (d : ℕ) (ds : List ℕ) → digits_number (d ∷ ds) ≡ (d - 48) * 10 ^ length ds + digits_number ds
digits_number-cons d ds = digits_behind (10 * 0 + (d - 48)) ds ∙ omega arith

pub digits_number-lt : (ds : List ℕ) → list_all is_ascii_digit ds ≡ true → digits_number ds < 10 ^ length ds
digits_number-lt [] all = omega arith
digits_number-lt (d ∷ ds) all =
    let parts = and_parts _ _ all in
    let digit = digit_range d parts.0 in
    let power = pow-suc 10 (length ds) in
    let first = mul-le-mul_right {m = d - 48} {n = 9} (10 ^ length ds) (omega arith) in
    omega (arith, digits_number-cons d ds, digits_number-lt ds parts.1)

-- a size only grows
pub size_grows : (u k n q : ℕ) → 1 ≤ k → 0 < q → u ≤ rounded ((u * q + n) * k) q
size_grows u k n q some part =
    let grown = le-mul_of_pos_right {m = k} (u * q + n) some in
    let within : u * (2 * q) ≤ 2 * ((u * q + n) * k) + q = omega arith in
    (le-div_iff_mul-le {k = 2 * q} {x = u} {y = 2 * ((u * q + n) * k) + q} (omega arith)).1 within

-- so a size may be kept at the limit once it is there
pub limit_kept : (F : ℕ → ℕ) (limit : ℕ) → ((u : ℕ) → u ≤ F u) → (u : ℕ) → min (F (min u limit)) limit ≡ min (F u) limit
limit_kept F limit grows u =
    elim (cases_lt u limit) [
      | inl below ↦ ap (λ n. min (F n) limit) (min-eq_left {n = u} {m = limit} (omega arith))
      | inr above ↦
          ap (λ n. min (F n) limit) (min-eq_right {n = limit} {m = u} above) ∙ min-eq_right {n = limit} {m = F limit} (grows limit) ∙ sym (min-eq_right {n = limit} {m = F u} (omega (arith, grows u)))
    ]

-- a digit before the cut
pub push_digit : (u places c : ℕ) (more : List ℕ) → worth (min (10 * u + (c - 48)) (10 ^ 27)) (Some places) more ≡ worth u (Some (suc places)) (c ∷ more)
push_digit u places c more =
    let q = 10 ^ length more in
    let k = 10 ^ places in
    let F : ℕ → ℕ = λ v. rounded ((v * q + digits_number more) * k) q in
    let kept = limit_kept F (10 ^ 27) (λ v. size_grows v k (digits_number more) q (power_some places) (power_some (length more))) (10 * u + (c - 48)) in
    let top : (u * (q * 10) + ((c - 48) * q + digits_number more)) * (k * 10) ≡ 10 * (((10 * u + (c - 48)) * q + digits_number more) * k) = omega arith in
    let bottom : q * 10 ≡ 10 * q = omega arith in
    let step : rounded ((u * 10 ^ suc (length more) + digits_number (c ∷ more)) * 10 ^ suc places) (10 ^ suc (length more)) ≡ F (10 * u + (c - 48)) =
    rw (digits_number-cons c more, pow-suc 10 (length more), pow-suc 10 places, top, bottom) (rounded-scaled 10 (((10 * u + (c - 48)) * q + digits_number more) * k) q (omega arith)) in
    kept ∙ ap (λ n. min n (10 ^ 27)) (sym step)

-- the digit behind the cut rounds
at_cut : (u c : ℕ) (more : List ℕ) (v : ℕ) → rounded (u * 10 ^ suc (length more) + digits_number (c ∷ more)) (10 ^ suc (length more)) ≡ v → min v (10 ^ 27) ≡ worth u (Some 0) (c ∷ more)
at_cut u c more v is =
    let q = 10 ^ suc (length more) in
    let one : (u * q + digits_number (c ∷ more)) * 1 ≡ u * q + digits_number (c ∷ more) = omega arith in
    ap (λ n. min n (10 ^ 27)) (sym (ap (λ p. rounded p q) one ∙ is))

pub push_last_down : (u c : ℕ) (more : List ℕ) → list_all is_ascii_digit (c ∷ more) ≡ true → c < 53 → min u (10 ^ 27) ≡ worth u (Some 0) (c ∷ more)
push_last_down u c more all below =
    let power = pow-suc 10 (length more) in
    let first = mul-le-mul_right {m = c - 48} {n = 4} (10 ^ length more) (omega arith) in
    let parts = and_parts (is_ascii_digit c) (list_all is_ascii_digit more) all in
    at_cut u c more u (rounded-below_half u (digits_number (c ∷ more)) (10 ^ suc (length more)) (omega (arith, digits_number-cons c more, digits_number-lt more parts.1)))

pub push_last_up : (u c : ℕ) (more : List ℕ) → list_all is_ascii_digit (c ∷ more) ≡ true → 53 ≤ c → min (u + 1) (10 ^ 27) ≡ worth u (Some 0) (c ∷ more)
push_last_up u c more all above =
    let power = pow-suc 10 (length more) in
    let first = mul-le-mul_right {m = 5} {n = c - 48} (10 ^ length more) (omega arith) in
    at_cut u c more (u + 1) (rounded-from_half u (digits_number (c ∷ more)) (10 ^ suc (length more)) (digits_number-lt (c ∷ more) all) (omega (arith, digits_number-cons c more)))

-- where all of a list passes, so does what is left of it
pub all_left : (p : ℕ → Bool) (count : ℕ) (xs more : List ℕ) → list_all p (xs ++ more) ≡ true → list_all p (drop count xs ++ more) ≡ true
all_left p count xs more all =
    let whole : take count xs ++ (drop count xs ++ more) ≡ xs ++ more =
    sym (append_assoc (take count xs) (drop count xs) more) ∙ ap (λ ys. ys ++ more) (take-append-drop count xs) in
    let parts = and_parts (list_all p (take count xs)) (list_all p (drop count xs ++ more)) (sym (list_all-append p (take count xs) (drop count xs ++ more)) ∙ ap (list_all p) whole ∙ all) in
    parts.1

-- a size that isn't 0 and still has 27 places before the cut is at the limit
pub worth-far : (u places : ℕ) → 1 ≤ u → 27 ≤ places → worth u (Some places) [] ≡ 10 ^ 27
worth-far u places some far =
    let power = pow-le-pow_right {n = 10} (omega arith) {i = 27} {j = places} far in
    let grown = mul-le-mul_right {m = 1} {n = u} (10 ^ places) some in
    let whole = rounded-whole ((u * 1 + 0) * 10 ^ places) in
    min-eq_right {n = 10 ^ 27} {m = rounded ((u * 1 + 0) * 10 ^ places) 1} (omega arith)

-- What a way of rounding picks, and what a division rounded down or cut leaves.
use Rattle.std.proofs.Common.{◌≡◌, ℕ, zero, suc, ◌+◌, ◌-◌, ◌*◌, ◌/◌, ◌%◌, ◌^◌, ◌<◌, ◌≤◌, min, eqb, Bool, true, false, not, if◌then◌else◌, ℤ, pos, negsuc, neg_ℤ, nat_abs, int_le, ◌*ℤ◌, Result, Ok, Err, inl, inr, refl, ap, ◌∙◌, sym, arith}
use mathlib.Core.Bool.{beq}
use lib.Dec.{leb}
use Rattle.std.proofs.Math.Dec.{eqb-suc-zero}
use lib.Signed.{lt_z}
use Rattle.std.proofs.Math.Nat.{mul-add-div_right, div-eq_of_lt, min-eq_left, min-eq_right, pow-le-pow_right, mod-eq_of_lt}
use Rattle.std.proofs.lemmas.Bool.{cases_lt, cond-true, cond-false, le-ltb, le-leb, lt-leb}
use Rattle.std.proofs.lemmas.Int.{ints}
use Rattle.std.proofs.lemmas.Nat.{div-add-mod', div-mul-add, mod_below, mod-mul-add}
use Rattle.calc_num.specs.declared.num.NumFault.{NumFault}
use Rattle.calc_num.specs.declared.num.NumFault.TheVariants.{Over}
use Rattle.calc_num.specs.declared.rounding.Way.{Way}
use Rattle.calc_num.specs.declared.rounding.Way.TheVariants.{Nearest, Away, Toward, Floor}
use Rattle.calc_num.specs.Decimals.{rounded, nearest, checked, with_sign, pick, round_to, floor_mod, quotient, fewer_than_nine}
use Rattle.calc_num.proofs.ReadNumbers.Scale.{rounded-below_half, rounded-from_half}
use Rattle.calc_num.proofs.Arithmetic.Signs.{nearest-sign, not_below_zero, is_raw-sign, times-sign}

-- rounding up is one more than the quotient of what is below
up : (n unit : ℕ) → 0 < unit → (suc n + (unit - 1)) / unit ≡ suc (n / unit)
up n unit some =
    let whole : suc n + (unit - 1) ≡ 1 * unit + n = omega arith in
    let one : 1 + n / unit ≡ suc (n / unit) = omega arith in
    ap (λ k. k / unit) whole ∙ mul-add-div_right {m = unit} some 1 n ∙ one

none_up : (unit : ℕ) → 0 < unit → (0 + (unit - 1)) / unit ≡ 0
none_up unit some = div-eq_of_lt {n = 0 + (unit - 1)} {m = unit} (omega arith)

none_down : (n unit : ℕ) → n < unit → n / unit ≡ 0
none_down n unit small = div-eq_of_lt {n = n} {m = unit} small

pick-floor_negative : (size unit : ℕ) → 0 < unit → neg_ℤ (pos ((size + (unit - 1)) / unit)) ≡ pick Floor (neg_ℤ (pos size)) unit
pick-floor_negative zero unit some =
    ap (λ k. neg_ℤ (pos k)) (none_up unit some) ∙ ap pos (sym (none_down 0 unit some))
pick-floor_negative (suc n) unit some = ap (λ k. neg_ℤ (pos k)) (up n unit some)

-- the sign may be put before or behind the other ways of rounding too
pick-away_sign : (negative : Bool) (size unit : ℕ) → 0 < unit → pick Away (with_sign negative size) unit ≡ with_sign negative ((size + (unit - 1)) / unit)
pick-away_sign false size unit some = refl
pick-away_sign true zero unit some = ap pos (none_up unit some) ∙ ap (λ k. neg_ℤ (pos k)) (sym (none_up unit some))
pick-away_sign true (suc n) unit some = refl

pick-toward_sign : (negative : Bool) (size unit : ℕ) → 0 < unit → pick Toward (with_sign negative size) unit ≡ with_sign negative (size / unit)
pick-toward_sign false size unit some = refl
pick-toward_sign true zero unit some = ap pos (none_down 0 unit some) ∙ ap (λ k. neg_ℤ (pos k)) (sym (none_down 0 unit some))
pick-toward_sign true (suc n) unit some = refl

-- so many units and a rest are rounded up to one more where the rest is some
round_up : (count rest unit : ℕ) → rest < unit → (count * unit + rest + (unit - 1)) / unit ≡ (if not (eqb rest 0) then count + 1 else count)
round_up count zero unit small =
    let whole : count * unit + 0 + (unit - 1) ≡ count * unit + (unit - 1) = omega arith in
    ap (λ k. k / unit) whole ∙ div-mul-add count unit (unit - 1) (omega arith)
round_up count (suc rest) unit small =
    let whole : count * unit + suc rest + (unit - 1) ≡ (count + 1) * unit + rest = omega arith in
    ap (λ k. k / unit) whole ∙ div-mul-add (count + 1) unit rest (omega arith) ∙ sym (cond-true (not (eqb (suc rest) 0)) (count + 1) count (ap not (eqb-suc-zero rest)))

-- what each way picks for so many units and a rest
pub one_more_nearest : (negative : Bool) (count rest unit : ℕ) → rest < unit → with_sign negative (if leb unit (2 * rest) then count + 1 else count) ≡ nearest (with_sign negative (count * unit + rest)) unit
one_more_nearest negative count rest unit small =
    ap (with_sign negative) (elim (cases_lt (2 * rest) unit) [
      | inl below ↦
          cond-false (leb unit (2 * rest)) (count + 1) count (lt-leb unit (2 * rest) below) ∙ sym (rounded-below_half count rest unit below)
      | inr above ↦
          cond-true (leb unit (2 * rest)) (count + 1) count (le-leb unit (2 * rest) above) ∙ sym (rounded-from_half count rest unit small above)
    ]) ∙ sym (nearest-sign negative (count * unit + rest) unit (omega arith))

pub one_more_away : (negative : Bool) (count rest unit : ℕ) → rest < unit → with_sign negative (if not (eqb rest 0) then count + 1 else count) ≡ pick Away (with_sign negative (count * unit + rest)) unit
one_more_away negative count rest unit small =
    ap (with_sign negative) (sym (round_up count rest unit small)) ∙ sym (pick-away_sign negative (count * unit + rest) unit (omega arith))

pub one_more_toward : (negative : Bool) (count rest unit : ℕ) → rest < unit → with_sign negative count ≡ pick Toward (with_sign negative (count * unit + rest)) unit
one_more_toward negative count rest unit small =
    ap (with_sign negative) (sym (div-mul-add count unit rest small)) ∙ sym (pick-toward_sign negative (count * unit + rest) unit (omega arith))

pub one_more_floor : (count rest unit : ℕ) → rest < unit → neg_ℤ (pos (if not (eqb rest 0) then count + 1 else count)) ≡ pick Floor (neg_ℤ (pos (count * unit + rest))) unit
one_more_floor count rest unit small =
    ap (λ k. neg_ℤ (pos k)) (sym (round_up count rest unit small)) ∙ pick-floor_negative (count * unit + rest) unit (omega arith)

-- beyond every number the unit doesn't matter: each way picks 0, or one unit that is out of range
gone : (negative : Bool) (count unit : ℕ) → count ≡ 0 → checked (with_sign negative count *ℤ pos unit) ≡ Ok (pos 0)
gone false count unit none = let zeros : count * unit ≡ 0 = rw none (omega arith) in rw zeros refl
gone true count unit none = let zeros : 0 * unit ≡ 0 = omega arith in rw (none, zeros) refl

over : (negative : Bool) (count unit : ℕ) → count ≡ 1 → 10 ^ 28 ≤ unit → checked (with_sign negative count *ℤ pos unit) ≡ Err Over
over false count unit one beyond =
    rw one (cond-false _ _ _ (is_raw-sign false (1 * unit) ∙ le-ltb (1 * unit) (10 ^ 27) (omega arith)))
over true count unit one beyond =
    rw one (cond-false _ _ _ (is_raw-sign true (1 * unit) ∙ le-ltb (1 * unit) (10 ^ 27) (omega arith)))

far : Way → ℤ → Result ℤ NumFault
far Nearest n = Ok (pos 0)
far Toward n = Ok (pos 0)
far Away (pos zero) = Ok (pos 0)
far Away n = Err Over
far Floor (pos n) = Ok (pos 0)
far Floor (negsuc n) = Err Over

one_up : (n unit : ℕ) → n < 10 ^ 27 → 10 ^ 28 ≤ unit → (suc n + (unit - 1)) / unit ≡ 1
one_up n unit small beyond = up n unit (omega arith) ∙ ap suc (none_down n unit (omega arith))

nearest_none : (n unit : ℕ) → n < 10 ^ 27 → 10 ^ 28 ≤ unit → rounded n unit ≡ 0
nearest_none n unit small beyond = div-eq_of_lt {n = 2 * n + unit} {m = 2 * unit} (omega arith)

is_far : (way : Way) (n : ℤ) (unit : ℕ) → nat_abs n < 10 ^ 27 → 10 ^ 28 ≤ unit → checked (pick way n unit *ℤ pos unit) ≡ far way n
unfolding far
is_far Nearest (pos n) unit small beyond = gone false (rounded n unit) unit (nearest_none n unit small beyond)
is_far Nearest (negsuc n) unit small beyond =
    gone true (rounded (suc n) unit) unit (nearest_none (suc n) unit small beyond)
is_far Toward (pos n) unit small beyond = gone false (n / unit) unit (none_down n unit (omega arith))
is_far Toward (negsuc n) unit small beyond = gone true (suc n / unit) unit (none_down (suc n) unit (omega arith))
is_far Away (pos zero) unit small beyond = gone false ((0 + (unit - 1)) / unit) unit (none_up unit (omega arith))
is_far Away (pos (suc n)) unit small beyond =
    over false ((suc n + (unit - 1)) / unit) unit (one_up n unit (omega arith) beyond) beyond
is_far Away (negsuc n) unit small beyond =
    over true ((suc n + (unit - 1)) / unit) unit (one_up n unit (omega arith) beyond) beyond
is_far Floor (pos n) unit small beyond = gone false (n / unit) unit (none_down n unit (omega arith))
is_far Floor (negsuc n) unit small beyond =
    over true (suc (n / unit)) unit (ap suc (none_down n unit (omega arith))) beyond

-- so a unit of 10^28 does for all that are as large or larger
pub pick-far : (way : Way) (n : ℤ) (places : ℕ) → nat_abs n < 10 ^ 27 → checked (pick way n (10 ^ min places 28) *ℤ pos (10 ^ min places 28)) ≡ checked (pick way n (10 ^ places) *ℤ pos (10 ^ places))
pick-far way n places small =
    elim (cases_lt places 28) [
      | inl below ↦ ap (λ k. checked (pick way n (10 ^ k) *ℤ pos (10 ^ k))) (min-eq_left {n = places} {m = 28} (omega arith))
      | inr above ↦
          ap (λ k. checked (pick way n (10 ^ k) *ℤ pos (10 ^ k))) (min-eq_right {n = 28} {m = places} above) ∙ is_far way n (10 ^ 28) small (omega arith) ∙ sym (is_far way n (10 ^ places) small (pow-le-pow_right {n = 10} (omega arith) {i = 28} {j = places} above))
    ]

pub round_to_of_sizes : (way : Way) (digits n : ℤ) (count : ℕ) → nat_abs n < 10 ^ 27 → int_le (pos 9) digits ≡ false → with_sign (lt_z n (pos 0)) count ≡ pick way n (10 ^ min (fewer_than_nine digits) 28) → checked (with_sign (lt_z n (pos 0)) (count * 10 ^ min (fewer_than_nine digits) 28)) ≡ round_to way digits n
round_to_of_sizes way digits n count small fewer picks =
    let places = fewer_than_nine digits in
    let unit = 10 ^ min places 28 in
    ap checked (times-sign (lt_z n (pos 0)) count unit ∙ ap (λ k. k *ℤ pos unit) picks) ∙ pick-far way n places small ∙ sym (cond-false (int_le (pos 9) digits) (Ok n) (checked (pick way n (10 ^ places) *ℤ pos (10 ^ places))) fewer)

-- what is left after a division rounded down
opposite_rest : (n d : ℕ) → 0 < d → (d - suc n % d) % d ≡ d - 1 - n % d
opposite_rest n d some =
    let parts = div-add-mod' n d in
    let small = mod_below n d some in
    elim (cases_lt (n % d + 1) d) [
      | inl inside ↦
          let next : suc n ≡ n / d * d + (n % d + 1) = omega arith in
          let rest : suc n % d ≡ n % d + 1 = ap (λ k. k % d) next ∙ mod-mul-add (n / d) d (n % d + 1) inside in
          let left : d - (n % d + 1) ≡ d - 1 - n % d = omega arith in
          ap (λ k. (d - k) % d) rest ∙ mod-eq_of_lt {n = d - (n % d + 1)} {m = d} (omega arith) ∙ left
      | inr past ↦
          let next : suc n ≡ (n / d + 1) * d + 0 = omega arith in
          let rest : suc n % d ≡ 0 = ap (λ k. k % d) next ∙ mod-mul-add (n / d + 1) d 0 some in
          let whole : d - 0 ≡ 1 * d + 0 = omega arith in
          let none : 0 ≡ d - 1 - n % d = omega arith in
          ap (λ k. (d - k) % d) rest ∙ ap (λ k. k % d) whole ∙ mod-mul-add 1 d 0 some ∙ none
    ]

zero_rest : (d : ℕ) → 0 < d → (d - 0 % d) % d ≡ 0
zero_rest d some =
    let whole : d - 0 ≡ 1 * d + 0 = omega arith in
    ap (λ k. (d - k) % d) (mod-eq_of_lt {n = 0} {m = d} some) ∙ ap (λ k. k % d) whole ∙ mod-mul-add 1 d 0 some

pub floor_mod_of_sizes : (n m : ℤ) → (nat_abs m ≡ 0 → ⊥) → Ok (with_sign (lt_z m (pos 0)) (if not (beq (lt_z n (pos 0)) (lt_z m (pos 0))) then (nat_abs m - nat_abs n % nat_abs m) % nat_abs m else nat_abs n % nat_abs m)) ≡ floor_mod n m
floor_mod_of_sizes n (pos zero) some = absurd (some refl)
floor_mod_of_sizes (pos n) (pos (suc m)) some =
    let parts = div-add-mod' n (suc m) in
    rw (not_below_zero n, not_below_zero (suc m)) (ap Ok (omega (arith, ints)))
floor_mod_of_sizes (negsuc n) (pos (suc m)) some =
    let parts = div-add-mod' n (suc m) in
    let small = mod_below n (suc m) (omega arith) in
    rw (not_below_zero (suc m), opposite_rest n (suc m) (omega arith)) (ap Ok (omega (arith, ints)))
floor_mod_of_sizes (pos zero) (negsuc m) some =
    let none = none_down 0 (suc m) (omega arith) in
    rw (zero_rest (suc m) (omega arith), none) (ap Ok (omega (arith, ints)))
floor_mod_of_sizes (pos (suc n)) (negsuc m) some =
    let parts = div-add-mod' n (suc m) in
    let small = mod_below n (suc m) (omega arith) in
    rw (not_below_zero (suc n), opposite_rest n (suc m) (omega arith)) (ap Ok (omega (arith, ints)))
floor_mod_of_sizes (negsuc n) (negsuc m) some =
    let parts = div-add-mod' (suc n) (suc m) in
    ap Ok (omega (arith, ints))

-- a cut quotient
pub quotient_of_sizes : (n m : ℤ) → (nat_abs m ≡ 0 → ⊥) → checked (with_sign (not (beq (lt_z n (pos 0)) (lt_z m (pos 0)))) (nat_abs n / nat_abs m * 10 ^ 9)) ≡ quotient n m
quotient_of_sizes n (pos zero) some = absurd (some refl)
quotient_of_sizes (pos n) (pos (suc m)) some = rw (not_below_zero n, not_below_zero (suc m)) refl
quotient_of_sizes (negsuc n) (pos (suc m)) some =
    rw (not_below_zero (suc m)) (ap checked (times-sign true (suc n / suc m) (10 ^ 9)))
quotient_of_sizes (pos n) (negsuc m) some = rw (not_below_zero n) (ap checked (times-sign true (n / suc m) (10 ^ 9)))
quotient_of_sizes (negsuc n) (negsuc m) some = refl

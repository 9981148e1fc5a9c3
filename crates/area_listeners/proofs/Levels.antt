-- The level of an area is the first one that has areas of so many rows.
use Rattle.std.proofs.Common.{◌≡◌, ℕ, zero, suc, ◌+◌, ◌-◌, ◌≤◌, ◌<◌, true, false, cond, nat_le, refl, ap, subst, ◌∙◌, arith}
use Rattle.std.proofs.lemmas.Bool.{leb-true}
use Rattle.std.proofs.lemmas.Bool.Decides.{nat_tests}
use Rattle.std.proofs.Math.Nat.{pow-le-pow_right}
use Rattle.area_listeners.specs.Spots.{height, level_from, level_of}

pub height_top : (level : ℕ) → level ≤ 10 → height level ≤ 1048576
height_top level h = pow-le-pow_right {n = 4} (omega arith) {i = level} {j = 10} h

short : (level rows : ℕ) → height level < rows → nat_le rows (height level) ≡ false
short level rows h = grind (arith, nat_tests)

pub goes_on : (level rows : ℕ) → level < 10 → height level < rows → level_from (10 - level) level rows ≡ level_from (10 - (level + 1)) (level + 1) rows
goes_on level rows below more =
    let one : 10 - level ≡ suc (10 - (level + 1)) = omega arith in
    ap (λ n. level_from n level rows) one
    ∙ ap (λ b. cond b level (level_from (10 - (level + 1)) (level + 1) rows)) (short level rows more)

fits : (level rows : ℕ) → rows ≤ height level → nat_le rows (height level) ≡ true
fits level rows h = grind (arith, nat_tests)

pub stops : (n level rows : ℕ) → rows ≤ height level → level_from n level rows ≡ level
stops zero level rows h = refl
stops (suc n) level rows h = ap (λ b. cond b level (level_from n (level + 1) rows)) (fits level rows h)

pub tall : (n level rows : ℕ) → rows ≤ height (level + n) → rows ≤ height (level_from n level rows)
tall zero level rows h = let same : level + 0 ≡ level = omega arith in subst (λ k. rows ≤ height k) same h
tall (suc n) level rows h =
    elim (nat_le rows (height level)) as (λ b. nat_le rows (height level) ≡ b → rows ≤ height (cond b level (level_from n (level + 1) rows))) [
      | true ↦ λ e. leb-true _ _ e
      | false ↦ λ e. let moved : level + suc n ≡ level + 1 + n = omega arith in tall n (level + 1) rows (subst (λ k. rows ≤ height k) moved h)
    ] refl

-- an area of the sheet has no more rows than its level
pub tall_enough : (rows : ℕ) → rows ≤ 1048576 → rows ≤ height (level_of rows)
tall_enough rows h = tall 10 0 rows h

-- What was taken of an input, up to one more than its limit, tells whether it is longer.
use Rattle.std.proofs.Common.{rules, ◌≡◌, ℕ, ◌+◌, ◌≤◌, ◌<◌, ◌⊎◌, inl, inr, true, List, length, take, drop, Option, Some, ap, ◌∙◌, arith, nat_lt, min}
use Rattle.std.specs.Io.KnownBytes.{Keeps}
use Rattle.std.proofs.KnownBytes.{Keeps-trans}
use Rattle.std.proofs.lemmas.Bool.{lt-ltb}
use Rattle.std.proofs.lemmas.List.{length-take, take_all}
use Rattle.calc_cli.specs.Runs.{TakesAtMost}

pub longer : (limit : ℕ) (taken all : List ℕ) → taken ≡ take (limit + 1) all → limit < length taken → nat_lt limit (length all) ≡ true
longer limit taken all taken_is more =
    let counts : length taken ≡ min (limit + 1) (length all) = ap length taken_is ∙ length-take (limit + 1) all in
    lt-ltb limit (length all) (omega (arith, counts, more))

pub within : (limit : ℕ) (taken all : List ℕ) → taken ≡ take (limit + 1) all → length taken ≤ limit → length all ≤ limit
within limit taken all taken_is few =
    let counts : length taken ≡ min (limit + 1) (length all) = ap length taken_is ∙ length-take (limit + 1) all in
    omega (arith, counts, few)

pub whole : (limit : ℕ) (taken all : List ℕ) → taken ≡ take (limit + 1) all → length taken ≤ limit → taken ≡ all
whole limit taken all taken_is few =
    let fits : length all ≤ limit + 1 = omega (arith, within limit taken all taken_is few) in
    taken_is ∙ take_all (limit + 1) all fits

-- what isn't taken is left, and so is what was left before
pub still_told : (old new : Option (List ℕ)) (bytes : List ℕ) → Keeps old new → old ≡ Some bytes → new ≡ Some bytes
still_told old new bytes kept told = search (rules, kept, told)

pub takes_none : (old new : Option (List ℕ)) (bytes : List ℕ) (most : ℕ) → Keeps old new → old ≡ Some bytes → TakesAtMost most bytes new
takes_none old new bytes most kept told = (0, omega arith, still_told old new bytes kept told)

pub takes_no_more : (first then last : Option (List ℕ)) (bytes : List ℕ) (most : ℕ) → Keeps first then ⊎ TakesAtMost most bytes then → Keeps then last → Keeps first last ⊎ TakesAtMost most bytes last
takes_no_more first then last bytes most (inl kept) still = inl (Keeps-trans first then last kept still)
takes_no_more first then last bytes most (inr taken) still = inr (taken.0, taken.1, still_told then last (drop taken.0 bytes) still taken.2)

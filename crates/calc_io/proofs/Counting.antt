-- How counts of faults go on over several calls.
use Rattle.std.proofs.Common.{Result, Ok, Err, ℕ, ◌≤◌, arith}
use Rattle.std.specs.Prelude.{OnErr}
use Rattle.calc_io.specs.Faults.{Rose, CountsFailure}

-- a count that rose has risen also where it went on
pub Rose-later : (first then last : ℕ) → Rose first then → then ≤ last → Rose first last
Rose-later first then last rose later = omega arith

-- a count that rose later has risen since before
pub later-Rose : (first then last : ℕ) → first ≤ then → Rose then last → Rose first last
later-Rose first then last later rose = omega arith

-- a call that counts its failure fails only where the count rose
pub CountsFailure-cause : {T E : Type 0} (before now : ℕ) (result : Result T E) → CountsFailure before now result → OnErr result (Rose before now)
CountsFailure-cause before now (Ok value) counted = tt
CountsFailure-cause before now (Err error) counted = omega arith

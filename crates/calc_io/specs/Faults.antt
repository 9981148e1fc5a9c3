-- Counts of faults. A count never falls, and at 2^64 - 1, its last value, it stands still.
use Rattle.std.specs.Prelude.{◌≡◌, ℕ, ◌+◌, ◌-◌, ◌^◌, ◌≤◌, min, ⊤, Result, Ok, Err, MatchResult}
use Rattle.calc_io.specs.declared.faults.DeviceFault.{DeviceFault}
use Rattle.calc_io.specs.declared.faults.DeviceFault.TheVariants.{Failed, NoMemory}

-- the count after one more fault
abbrev pub one_more : ℕ → ℕ
one_more count = min (count + 1) (2 ^ 64 - 1)

-- the count rose: it is greater than before, or stands at its last value
abbrev pub Rose : ℕ → ℕ → Type 0
Rose before now = one_more before ≤ now

-- a call that fails is counted, and no other
abbrev pub CountsFailure : {T E : Type 0} → ℕ → ℕ → Result T E → Type 0
CountsFailure before now result = MatchResult result (λ _. now ≡ before) (λ _. now ≡ one_more before)

-- it ended because a device failed
abbrev pub HasFailed : {T : Type 0} → Result T DeviceFault → Type 0
HasFailed (Ok x) = ⊥
HasFailed (Err (Failed failed)) = ⊤
HasFailed (Err (NoMemory refused)) = ⊥

-- What loops write or count that test lanes or items, and look for tests with one answer.
use Rattle.std.specs.Prelude.{◌≡◌, ℕ, ℤ, pos, ◌<◌, Bool, not, if◌then◌else◌, List, length, slice_index_or}
use Rattle.lane_kernels.specs.Comparisons.{truth}

-- the item of a lane
abbrev pub lane : List ℤ → ℕ → ℤ
lane items k = slice_index_or items k (pos 0)

-- the answer is the one that is looked for
abbrev pub is_wanted : Bool → Bool → Bool
is_wanted wanted answer = if wanted then answer else not answer

abbrev pub truth_if : Bool → Bool → ℤ
truth_if wanted answer = truth (is_wanted wanted answer)

abbrev pub WritesTruths : (ℤ → ℤ → Bool) → Bool → List ℤ → List ℤ → List ℤ → Type 0
WritesTruths test wanted a b out = (k : ℕ) → k < length a →
    lane out k ≡ truth_if wanted (test (lane a k) (lane b k))

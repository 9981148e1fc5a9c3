-- How often a number stands in a list.
use Rattle.std.specs.Prelude.{ℕ, ◌==◌, ltb, List, count_by, if◌then◌else◌}

abbrev pub times : ℕ → List ℕ → ℕ
times x xs = count_by (λ y. y == x) xs

-- once for a number below the bound, and never for another
abbrev pub once_below : ℕ → ℕ → ℕ
once_below x bound = if ltb x bound then 1 else 0

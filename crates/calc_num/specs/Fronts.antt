-- Where a number that a longer text begins with ends: behind digits, a point with the digits behind it, and an
-- exponent with its sign and digits, each where it stands there. What stands before need be no number, as `.` or `1e`.
use Rattle.std.specs.Prelude.{ℕ, ◌-◌, ◌==◌, ◌||◌, List, [], ◌∷◌, length, if◌then◌else◌}
use Rattle.calc_num.specs.Spelling.{behind_digits, behind_fraction, behind_sign}

-- what stands behind an exponent that a text begins with
abbrev pub behind_exponent : List ℕ → List ℕ
behind_exponent [] = []
behind_exponent (byte ∷ rest) = if byte == 101 || byte == 69 then behind_digits (behind_sign rest) else byte ∷ rest

-- how many bytes stand before that end
abbrev pub unsigned_len : List ℕ → ℕ
unsigned_len text = length text - length (behind_exponent (behind_fraction (behind_digits text)))

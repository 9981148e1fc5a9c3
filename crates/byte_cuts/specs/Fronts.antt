-- The longest front of some bytes that all pass a test, and what stands behind it.
use Rattle.std.specs.Prelude.{ℕ, Bool, false, List, [], ◌∷◌, drop}
use Rattle.std.specs.List.{prefix_len}

-- the bytes begin with one that passes the test
abbrev pub begins : (ℕ → Bool) → List ℕ → Bool
begins test [] = false
begins test (byte ∷ rest) = test byte

-- what stands behind the bytes in front that pass the test; `take_while` is what stands before it
abbrev pub behind : (ℕ → Bool) → List ℕ → List ℕ
behind test bytes = drop (prefix_len test bytes) bytes

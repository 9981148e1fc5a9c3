-- Slots of codes, and the numbers of those without one.
use Rattle.std.specs.Prelude.{◌≡◌, ◌≢◌, ◌<◌, ◌≤◌, ◌^◌, ℕ, ◌+◌, List, length, None, slice_index}
use Rattle.formula_code.specs.Codes.{Codes, code_at, live_count}

pub record AreSlots (codes : Codes) (free : List ℕ) (room : ℕ) : Type 0 where
  pub numbers : length codes ≤ 2 ^ 24
  pub fits : length codes ≤ room
  pub counted : length free + live_count codes ≡ length codes
  pub inside : (i : ℕ) → i < length free → slice_index free i < length codes
  pub vacant : (i : ℕ) → i < length free → code_at codes (slice_index free i) ≡ None
  pub apart : (i j : ℕ) → i < j → j < length free → slice_index free i ≢ slice_index free j

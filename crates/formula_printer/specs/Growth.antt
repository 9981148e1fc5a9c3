-- What a refused growth leaves: a text that has only gained at its end.
use Rattle.std.specs.Prelude.{◌≡◌, ℕ, List, length, take}

pub record BeginsWith (old new : List ℕ) : Type 0 where
  pub kept : take (length old) new ≡ old

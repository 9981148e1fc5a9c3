-- The first place at which characters stand among others.
use Rattle.std.specs.Prelude.{◌≡◌, ◌<◌, ◌≤◌, ℕ, nat_eq, Bool, true, false, List, drop, length, Option}
use Rattle.std.specs.List.{starts_with}
use Rattle.std.specs.Option.{MatchOption}

-- the sought characters stand behind so many of these
abbrev pub stands_behind : List ℕ → List ℕ → ℕ → Bool
stands_behind sought characters count = starts_with nat_eq (drop count characters) sought

pub record IsFirst (sought characters : List ℕ) (count : ℕ) : Type 0 where
  pub within : count ≤ length characters
  pub here : stands_behind sought characters count ≡ true
  pub before : (k : ℕ) → k < count → stands_behind sought characters k ≡ false

-- Behind so many of the characters they stand first, or behind no number of them.
abbrev pub IsFirstPlace : List ℕ → List ℕ → Option ℕ → Type 0
IsFirstPlace sought characters place =
    MatchOption place ((k : ℕ) → k ≤ length characters → stands_behind sought characters k ≡ false) (λ count. IsFirst sought characters count)

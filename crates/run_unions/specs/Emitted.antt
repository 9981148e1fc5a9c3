-- The numbers of the cells of some runs, each once and rising.
use Rattle.std.specs.Prelude.{◌≡◌, ◌≤◌, ◌<◌, ℕ, Bool, true, ◌+◌, ◌&&◌, nat_eq, nat_le, List, [], ◌∷◌, ◌++◌, length, map, take, slice_index_or}
use Rattle.std.specs.List.{list_any}
use Rattle.calc_addr.specs.Places.{IsRows, Place, Rows}
use Rattle.run_unions.specs.Keys.{MOST, first_key, has_key, place_at}

-- the numbers rise, from one number on to before another
abbrev pub rises : ℕ → List ℕ → ℕ → Bool
rises low [] high = nat_le low high
rises low (k ∷ ks) high = nat_le low k && rises (k + 1) ks high

abbrev pub has : List ℕ → ℕ → Bool
has keys key = list_any (nat_eq key) keys

-- The cells of the first runs were appended, and the next ones begin behind or have none that is new before a number.
pub record IsEmitting (old now : List Place) (runs : List Rows) (n next : ℕ) : Type 0 where
  pub keys : List ℕ
  pub is : now ≡ old ++ map place_at keys
  pub rise : rises 0 keys next ≡ true
  pub top : next ≤ MOST
  pub each : (k : ℕ) → has keys k ≡ list_any (has_key k) (take n runs)
  pub held : (k : ℕ) → ((j : ℕ) (d : Rows) → j < n → first_key (slice_index_or runs j d) ≤ k) → k < next → list_any (has_key k) (take n runs) ≡ true
  pub rows : (j : ℕ) (d : Rows) → j < n → IsRows (slice_index_or runs j d)

-- the cells of all runs were appended
pub record IsEmitted (old now : List Place) (runs : List Rows) : Type 0 where
  pub keys : List ℕ
  pub next : ℕ
  pub is : now ≡ old ++ map place_at keys
  pub rise : rises 0 keys next ≡ true
  pub each : (k : ℕ) → has keys k ≡ list_any (has_key k) runs
  pub rows : (j : ℕ) (d : Rows) → j < length runs → IsRows (slice_index_or runs j d)

-- Places of a table of runs, and what an edit of rows leaves of the runs at its edges.
use Rattle.std.specs.Prelude.{ℕ, zero, suc, ◌≡◌, ◌+◌, ◌^◌, Bool, ◌≤◌, ◌<◌, min, max, List, [], ◌∷◌, Option, ◌++◌, None, Some, IfSome, IfNone, slice_get}
use Rattle.std.specs.Option.{option_map}
use Rattle.run_tables.specs.Runs.{Run, meet, moved}

-- the runs in front of place i, and no others, begin at row q or above it
pub record IsFirstPast {K : Type 0} (q : ℕ) (t : List (Run K)) (i : ℕ) : Type 0 where
  pub before : (j : ℕ) → i ≡ j + 1 → IfSome (slice_get t j) (λ r. r.first ≤ q)
  pub here : IfSome (slice_get t i) (λ r. q < r.first)

-- the runs in front of place i, and no others, end at row q or above it
pub record IsFirstEndingPast {K : Type 0} (q : ℕ) (t : List (Run K)) (i : ℕ) : Type 0 where
  pub before : (j : ℕ) → i ≡ j + 1 → IfSome (slice_get t j) (λ r. r.last ≤ q)
  pub here : IfSome (slice_get t i) (λ r. q < r.last)

-- the run without its rows past a, and without those up to b
abbrev pub up_to : {K : Type 0} → ℕ → Run K → Run K
up_to a r = record r { last = min r.last a }

abbrev pub past : {K : Type 0} → ℕ → Run K → Run K
past b r = record r { first = max r.first (b + 1) }

-- a run or none, as a list
abbrev pub options : {K : Type 0} → Option (Run K) → List (Run K)
options None = []
options (Some r) = r ∷ []

-- a run's rows have numbers below 2^31
abbrev pub HasSmallRows : {K : Type 0} → Run K → Type 0
HasSmallRows r = (r.first < 2 ^ 31) × (r.last < 2 ^ 31)

-- a run or none in front of a table
abbrev pub fronted : {K : Type 0} → (K → K → Bool) → Option (Run K) → List (Run K) → List (Run K)
fronted same None t = t
fronted same (Some r) t = meet same r t

-- two runs or none, and what they become in front of a table that is empty where the second is none
pub record IsMet {K : Type 0} (same : K → K → Bool) (left right first second : Option (Run K)) : Type 0 where
  pub joins : (t : List (Run K)) → IfNone right (t ≡ []) → fronted same left (options right ++ t) ≡ options first ++ (options second ++ t)
  pub ends : (t : List (Run K)) → IfNone right (t ≡ []) → IfNone first (options second ++ t ≡ [])

-- the run in front of a place of a table
abbrev pub run_before : {K : Type 0} → List (Run K) → ℕ → Option (Run K)
run_before t zero = None
run_before t (suc i) = slice_get t i

-- n rows behind row a that hold one key or none, as a run
abbrev pub filled_run : {K : Type 0} → ℕ → ℕ → Option K → Option (Run K)
filled_run a n None = None
filled_run a zero (Some k) = None
filled_run a (suc n) (Some k) = Some (record { first = a + 1; last = a + suc n; key = k })

-- the run at a place, without its rows up to b, when the rows past b go on past c
abbrev pub right_run : {K : Type 0} → ℕ → ℕ → List (Run K) → ℕ → Option (Run K)
right_run b c t i = option_map (λ r. moved b c (past b r)) (slice_get t i)

-- the run's rows lie at row b or behind it
abbrev pub IsPast : {K : Type 0} → ℕ → Run K → Type 0
IsPast b r = (b ≤ r.first) × (b ≤ r.last)

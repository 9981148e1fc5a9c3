-- The maximal runs of a column's rows. A row holds a key or none, and a run is a list of neighbouring rows
-- that hold one key.
use Rattle.std.specs.Prelude.{ℕ, zero, suc, ◌+◌, ◌-◌, ◌≤◌, ◌==◌, ◌&&◌, nat_le, Bool, if◌then◌else◌, List, [], ◌∷◌, Option, None, Some}

-- the rows from the first to the last hold the key
pub record Run (K : Type 0) : Type 0 where
  pub first : ℕ
  pub last : ℕ
  pub key : K

module _ {K : Type 0} (same : K → K → Bool) where
  -- the second run lies right behind the first, and has its key
  abbrev pub touches : Run K → Run K → Bool
  touches r x = (r.last + 1 == x.first) && same r.key x.key

  -- the runs behind a run, which takes in the first of them where that goes on with its key
  abbrev pub meet : Run K → List (Run K) → List (Run K)
  meet r [] = r ∷ []
  meet r (x ∷ t) = if touches r x then record r { last = x.last } ∷ t else r ∷ x ∷ t

  -- the maximal runs of rows of which the first has the number p
  abbrev pub runs_from : ℕ → List (Option K) → List (Run K)
  runs_from p [] = []
  runs_from p (None ∷ s) = runs_from (p + 1) s
  runs_from p (Some k ∷ s) = meet (record { first = p; last = p; key = k }) (runs_from (p + 1) s)

  -- the maximal runs of a column
  abbrev pub runs_of : List (Option K) → List (Run K)
  runs_of s = runs_from 1 s

-- the runs lie in order, from row p on
abbrev pub Rises : {K : Type 0} → ℕ → List (Run K) → Type 0
Rises p [] = Unit {0}
Rises p (x ∷ t) = (p ≤ x.first) × (x.first ≤ x.last) × Rises (x.last + 1) t

-- a run of rows past b, when these go on past c
abbrev pub moved : {K : Type 0} → ℕ → ℕ → Run K → Run K
moved b c r = record { first = r.first - b + c; last = r.last - b + c; key = r.key }

-- the key that a table of runs gives a row
abbrev pub entry : {K : Type 0} → ℕ → List (Run K) → Option K
entry q [] = None
entry q (r ∷ t) = if nat_le r.first q && nat_le q r.last then Some r.key else entry q t

-- what a table of runs gives the n rows from p on
abbrev pub entries_from : {K : Type 0} → ℕ → ℕ → List (Run K) → List (Option K)
entries_from p zero t = []
entries_from p (suc n) t = entry p t ∷ entries_from (p + 1) n t

-- what a table of runs gives the rows of a column of n rows
unfoldable pub entries : {K : Type 0} → ℕ → List (Run K) → List (Option K)
entries n t = entries_from 1 n t

-- A lane: a list of items by row, which ends where plain items alone follow.
use Rattle.std.specs.Prelude.{◌≡◌, ℕ, ◌+◌, ◌-◌, nat_lt, if◌then◌else◌, List, slice_index_or}

-- each row has the same item
abbrev pub Same : {T : Type 0} → T → List T → List T → Type 0
Same d xs ys = (r : ℕ) → slice_index_or ys r d ≡ slice_index_or xs r d

-- n rows that show d are put in behind the first a
abbrev pub opened : {T : Type 0} → ℕ → ℕ → T → (ℕ → T) → ℕ → T
opened a n d f r = if nat_lt r a then f r else (if nat_lt r (a + n) then d else f (r - n))

-- the n rows behind the first a go
abbrev pub closed : {T : Type 0} → ℕ → ℕ → (ℕ → T) → ℕ → T
closed a n f r = if nat_lt r a then f r else f (r + n)

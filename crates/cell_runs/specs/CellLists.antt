-- Cells in a list, and runs whose cells joined are the list.
use Rattle.std.specs.Prelude.{◌≡◌, ◌≤◌, ◌+◌, ◌-◌, ◌*◌, ◌^◌, ◌<◌, ℕ, length, slice_get, IfSome, List, [], ◌∷◌}
use Rattle.std.specs.List.{All, flat_map}
use Rattle.calc_addr.specs.Places.{Place, Rows, IsRows, IsBefore, column_places}

-- the cells of a run, downwards
abbrev pub cells_of : Rows → List Place
cells_of r = column_places r.sheet r.col r.first r.last

-- the cells of runs, joined
abbrev pub all_cells : List Rows → List Place
all_cells = flat_map cells_of

-- the first cell of a run
abbrev pub first_cell : Rows → Place
first_cell r = record { sheet = r.sheet; col = r.col; row = r.first }

-- the cells lie in area order in front of a run
abbrev pub LieBefore : List Place → Rows → Type 0
LieBefore cells r = All (λ p. IsBefore p (first_cell r)) cells

-- a number for each cell of the sheets, which rises in area order, and downwards by one
abbrev pub number_of : ℕ → ℕ → ℕ → ℕ
number_of sheet col row = sheet * 2 ^ 30 + col * 2 ^ 20 + row

abbrev pub first_number : Rows → ℕ
first_number r = number_of r.sheet r.col r.first

-- the numbers in front of place i, and no others, are at most x
pub record IsFirstAbove (x : ℕ) (xs : List ℕ) (i : ℕ) : Type 0 where
  pub before : (j : ℕ) → i ≡ j + 1 → IfSome (slice_get xs j) (λ y. y ≤ x)
  pub here : IfSome (slice_get xs i) (λ y. x < y)

-- The runs lie in area order from a number on, and each has the place in the list of its first cell.
abbrev pub IsIndexed : ℕ → ℕ → List Rows → List ℕ → Type 0
IsIndexed place from [] [] = Unit {0}
IsIndexed place from [] (s ∷ ss) = ⊥
IsIndexed place from (r ∷ rs) [] = ⊥
IsIndexed place from (r ∷ rs) (s ∷ ss) =
    (s ≡ place) × IsRows r × (from ≤ first_number r)
    × IsIndexed (place + (r.last + 1 - r.first)) (number_of r.sheet r.col r.last + 1) rs ss

-- what the list keeps beside its runs
pub record IsList (rs : List Rows) (places : List ℕ) (len : ℕ) : Type 0 where
  pub indexed : IsIndexed 0 0 rs places
  pub counted : len ≡ length (all_cells rs)

-- What one list of raw numbers gives: its sum, its least and greatest item, and the sum of each of its
-- windows. All results are exact.
use Rattle.std.specs.Prelude.{ℕ, ℤ, pos, neg_ℤ, ◌+ℤ◌, ◌≤ℤ◌, ◌+◌, ◌-◌, ◌*◌, ◌^◌, List, [], ◌∷◌, Option, Some, None, map, length, take, drop}
use Rattle.std.specs.List.{fold, range_with_len}
use Rattle.std.specs.Int.{int_min, int_max}

abbrev pub total : List ℤ → ℤ
total = fold ◌+ℤ◌ (pos 0)

-- so much at most is a sum of so many numbers of 64 bits
abbrev pub FitsLanes : ℕ → ℤ → Type 0
FitsLanes count sum = (neg_ℤ (pos (count * 2 ^ 63)) ≤ℤ sum) × (sum ≤ℤ pos (count * 2 ^ 63))

-- the least item, where there is one
abbrev pub least : List ℤ → Option ℤ
least [] = None
least (item ∷ rest) = Some (fold int_min item rest)

-- the greatest item, where there is one
abbrev pub greatest : List ℤ → Option ℤ
greatest [] = None
greatest (item ∷ rest) = Some (fold int_max item rest)

-- the items of the window that begins at a place
abbrev pub window : List ℤ → ℕ → ℕ → List ℤ
window items width place = take width (drop place items)

-- the sum of each window of a width that lies whole in the items, by the place where it begins
abbrev pub window_totals : List ℤ → ℕ → List ℤ
window_totals items width =
    map (λ place. total (window items width place)) (range_with_len 0 (length items + 1 - width))

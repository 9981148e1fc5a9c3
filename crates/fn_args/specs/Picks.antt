-- Values that are picked by others at the same places.
use Rattle.std.specs.Prelude.{ℤ, Bool, List, [], ◌∷◌, map, if◌then◌else◌}
use Rattle.std.specs.List.{filter, zip}
use Rattle.calc_model.specs.declared.value.Value.{Value}

-- the second values of the pairs whose first one passes
abbrev pub picked_of : (Value → Bool) → List (Value × Value) → List Value
picked_of passes pairs = map (λ (p : Value × Value). p.1) (filter (λ (p : Value × Value). passes p.0) pairs)

abbrev pub picked_by : (Value → Bool) → List Value → List Value → List Value
picked_by passes tested values = picked_of passes (zip tested values)

-- all of them, or none
abbrev pub if_picked : Bool → List Value → List Value
if_picked picked values = if picked then values else []

-- the numbers at the places where other numbers pass
abbrev pub where_passes : (ℤ → Bool) → List ℤ → List ℤ → List ℤ
where_passes passes (key ∷ keys) (n ∷ ns) = if passes key then n ∷ where_passes passes keys ns else where_passes passes keys ns
where_passes passes _ _ = []

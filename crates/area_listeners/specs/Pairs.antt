-- Pairs of an area and an id, and which of them have cells of an area.
use Rattle.std.specs.Prelude.{◌≡◌, ℕ, Bool, ◌&&◌, ◌==◌, nat_eq, List}
use Rattle.std.specs.List.{list_any}
use Rattle.std.specs.List.Sorted.{IsStrictlyIncreasing}
use Rattle.calc_addr.specs.Places.{Rectangle}
use Rattle.ears.specs.RunAreas.{is_same_area, meets}
use Rattle.area_listeners.specs.declared.listener.Listener.{Listener}

abbrev pub is_same : Listener → Listener → Bool
is_same a b = (a.id == b.id) && is_same_area a.area b.area

abbrev pub Pairs : Type 0
Pairs = List Listener

-- whether the pair is there
abbrev pub holds : Pairs → Listener → Bool
holds pairs l = list_any (is_same l) pairs

abbrev pub has_id : List ℕ → ℕ → Bool
has_id ids id = list_any (nat_eq id) ids

-- the pair has the id, and its area has a cell of the area
abbrev pub is_told : Rectangle → ℕ → Listener → Bool
is_told area id l = nat_eq id l.id && meets l.area area

-- The ids of the pairs whose areas have a cell of the area, each once and rising.
pub record AreMeeting (pairs : Pairs) (area : Rectangle) (ids : List ℕ) : Type 0 where
  pub rising : IsStrictlyIncreasing ids
  pub exact : (id : ℕ) → has_id ids id ≡ list_any (is_told area id) pairs

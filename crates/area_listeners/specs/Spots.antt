-- Where pairs stand: in a class by the size of their area, there by its column, and there by its first row.
use Rattle.std.specs.Prelude.{◌≡◌, ℕ, zero, suc, Bool, true, false, ◌+◌, ◌-◌, ◌*◌, ◌/◌, ◌%◌, ◌^◌, ◌==◌, ◌&&◌, not, nat_le, if◌then◌else◌, List, slice_index_or}
use Rattle.std.specs.declared.cmp.Ordering.{Ordering}
use Rattle.std.specs.Ordering.{is_le, nat_cmp, ordering_then}
use Rattle.calc_addr.specs.Places.{IsRectangle, Rectangle}
use Rattle.area_listeners.specs.declared.listener.Listener.{Listener}
use Rattle.area_listeners.specs.declared.gathering.Window.{Window}
use Rattle.area_listeners.specs.declared.spot.Spot.{Spot}
use Rattle.area_listeners.specs.declared.spot.TheConstants.{GROWTH, LAST_LEVEL}
use Rattle.area_listeners.specs.Pairs.{is_told}

-- how many rows an area of a level has at most
abbrev pub height : ℕ → ℕ
height level = GROWTH ^ level

-- the first level from one on that has areas of so many rows, or the last of so many levels
abbrev pub level_from : ℕ → ℕ → ℕ → ℕ
level_from zero level rows = level
level_from (suc n) level rows = if nat_le rows (height level) then level else level_from n (level + 1) rows

abbrev pub level_of : ℕ → ℕ
level_of rows = level_from LAST_LEVEL 0 rows

abbrev pub is_narrow : Rectangle → Bool
is_narrow a = a.first_col == a.last_col

-- a level has a class of the areas in one column, and one of those in several
abbrev pub class_of : Rectangle → ℕ
class_of a = 2 * level_of (a.last_row + 1 - a.first_row) + (if is_narrow a then 0 else 1)

abbrev pub spot_of : Listener → Spot
spot_of l = record {
  class = class_of l.area;
  sheet = l.area.sheet;
  column = if is_narrow l.area then l.area.first_col else 0;
  first_row = l.area.first_row;
  last_row = l.area.last_row;
  first_col = l.area.first_col;
  last_col = l.area.last_col;
  id = l.id;
}

abbrev pub area_of : Spot → Rectangle
area_of s = record { sheet = s.sheet; first_col = s.first_col; last_col = s.last_col; first_row = s.first_row; last_row = s.last_row }

abbrev pub listener_of : Spot → Listener
listener_of s = record { area = area_of s; id = s.id }

-- The area lies in the sheet, and the pair stands where it says.
pub record IsPlaced (s : Spot) : Type 0 where
  pub valid : IsRectangle (area_of s)
  pub place : s ≡ spot_of (listener_of s)

-- its class is one of those in use
abbrev pub IsInUse : List Bool → Spot → Type 0
IsInUse used s = slice_index_or used s.class false ≡ true

-- where the areas of a class can stand that have a cell of the area
abbrev pub window_of : ℕ → Rectangle → Window
window_of class a = record {
  class = class;
  sheet = a.sheet;
  left = if class % 2 == 0 then a.first_col else 0;
  right = if class % 2 == 0 then a.last_col else 0;
  first = a.first_row + 1 - height (class / 2);
  end = a.last_row + 1;
}

-- in front of all that stand in a row of a column
abbrev pub corner : Window → ℕ → ℕ → Spot
corner window column row = record { class = window.class; sheet = window.sheet; column = column; first_row = row; last_row = 0; first_col = 0; last_col = 0; id = 0 }

-- the order of spots
abbrev pub compared : Spot → Spot → Ordering
compared a b =
    ordering_then (nat_cmp a.class b.class) (ordering_then (nat_cmp a.sheet b.sheet)
    (ordering_then (nat_cmp a.column b.column) (ordering_then (nat_cmp a.first_row b.first_row)
    (ordering_then (nat_cmp a.last_row b.last_row) (ordering_then (nat_cmp a.first_col b.first_col)
    (ordering_then (nat_cmp a.last_col b.last_col) (nat_cmp a.id b.id)))))))

-- whether a spot stands in one of the columns or between them, from the first row of the one to the end of the other
abbrev pub is_between : Window → ℕ → ℕ → Spot → Bool
is_between window left right s = is_le (compared (corner window left window.first) s) && not (is_le (compared (corner window right window.end) s))

-- the listener has the id, and its area has a cell of the area
abbrev pub is_met : Rectangle → ℕ → Spot → Bool
is_met area id s = is_told area id (listener_of s)

-- the spot is of the class, and the listener there has the id and an area with a cell of the area
abbrev pub is_met_in : ℕ → Rectangle → ℕ → Spot → Bool
is_met_in class area id s = (s.class == class) && is_met area id s

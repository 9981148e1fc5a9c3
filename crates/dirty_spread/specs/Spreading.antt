-- Which formula cells are stale once some areas were touched: those that lie in one of them or reach one by reading.
use Rattle.std.specs.Prelude.{◌≡◌, ◌↔◌, ◌⊎◌, true, List, Contains, IsSome}
use Rattle.std.specs.List.{AllPairs, Any}
use Rattle.calc_addr.specs.Places.{IsBefore, Place, Rectangle, covers}
use Rattle.calc_model.specs.Listeners.{ReachesArea, ReadAreas}

-- The cells are all formula cells, each once, in the order of cells.
pub record AreFormulas (read : ReadAreas) (cells : List Place) : Type 0 where
  pub in_order : AllPairs IsBefore cells
  pub exact : (q : Place) → Contains cells q ↔ IsSome (read q)

-- the cell lies in the area, or reaches one of its cells by reading
abbrev pub LiesInOrReaches : ReadAreas → Place → Rectangle → Type 0
LiesInOrReaches read q area = (covers area q ≡ true) ⊎ ReachesArea read area q

-- The cell holds a formula, and lies in a touched area or reaches one by reading.
pub record IsStale (read : ReadAreas) (touched : List Rectangle) (q : Place) : Type 0 where
  pub formula : IsSome (read q)
  pub spread : Any (LiesInOrReaches read q) touched

-- The cells are all stale ones, each once, in the order of cells.
pub record AreStale (read : ReadAreas) (touched : List Rectangle) (cells : List Place) : Type 0 where
  pub in_order : AllPairs IsBefore cells
  pub exact : (q : Place) → Contains cells q ↔ IsStale read touched q

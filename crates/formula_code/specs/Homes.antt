-- The cells below a formula's.
use Rattle.std.specs.Prelude.{◌+◌, ℕ}
use Rattle.calc_addr.specs.Places.{Place}

-- the cell so many rows below
abbrev pub rows_below : Place → ℕ → Place
rows_below home distance = record home { row = home.row + distance }

-- What a run of formulas with one relative form reads by one of its references: the area that the first row reads,
-- and which of its ends go with the row.
use Rattle.std.specs.Prelude.{ℕ, ◌+◌, Bool, if◌then◌else◌}
use Rattle.calc_addr.specs.Places.{Rectangle}

pub record ReadArea : Type 0 where
  pub area : Rectangle
  pub first_moves : Bool
  pub last_moves : Bool

-- the row of an end, so many rows below the first one of the run
abbrev pub end_at : Bool → ℕ → ℕ → ℕ
end_at moves row distance = if moves then row + distance else row

-- the area that the row reads which lies so many rows below the first one of the run
abbrev pub area_at : ReadArea → ℕ → Rectangle
area_at ear distance = record ear.area {
  first_row = end_at ear.first_moves ear.area.first_row distance;
  last_row = end_at ear.last_moves ear.area.last_row distance;
}

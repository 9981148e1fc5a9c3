-- What a column is seen as.
use Rattle.std.specs.Prelude.{ℕ, List}
use Rattle.block_column.specs.declared.slot.Slot.{Slot}

-- the slot of each row, row 1 first, and how many single rows can be set or cleared before memory is asked for
pub record SlotRows : Type 0 where
  pub slots : List Slot
  pub spare : ℕ

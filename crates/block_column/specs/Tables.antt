-- Tables of blocks.
use Rattle.std.specs.Prelude.{◌≡◌, ℕ, ◌≤◌, ◌<◌, ◌+◌, ◌-◌, ◌/◌, ◌^◌, min, List, map, length, take, replicate, slice_get, Option, Some, vec_len}
use Rattle.std.specs.Option.{option_map}
use Rattle.std.specs.Vec.{vec_capacity}
use Rattle.calc_addr.specs.declared.cell.TheConstants.{LAST_ROW}
use Rattle.run_tables.specs.Runs.{runs_of}
use Rattle.block_column.specs.declared.slot.Slot.{Slot}
use Rattle.block_column.specs.declared.slot.Slot.TheVariants as slot
use Rattle.block_column.specs.declared.block.Kind.{Kind}
use Rattle.block_column.specs.declared.block.Kind.TheVariants.{Empty, Number, Words, Bad, Raw, Formula}
use Rattle.block_column.specs.declared.block.Block.{Block}
use Rattle.block_column.specs.declared.counts.Counts.{Counts}
use Rattle.block_column.specs.declared.stores.Stores.{Stores}
use Rattle.block_column.specs.declared.table.Table.{Table}
use Rattle.block_column.specs.Kinds.{kind_of, same_kind}
use Rattle.block_column.specs.Counting.{no_items, counted, tally, total}
use Rattle.block_column.specs.Stores.{Holds, store_room}
use Rattle.block_column.specs.Blocks.{block_run, block_kinds, blocks_of, counts_from, woven}

-- the blocks are the maximal runs of the kinds that they give
pub record AreBlocks (t : List Block) : Type 0 where
  pub runs : map block_run t ≡ runs_of same_kind (map Some (block_kinds t))
  pub rows : length (block_kinds t) ≤ LAST_ROW

-- the blocks and items are those of a column, whose rows are at most as many as a sheet has
pub record IsTableOf (t : Table) (s : List Slot) : Type 0 where
  pub blocks : t.blocks.items ≡ blocks_of s
  pub counts : t.counts.items ≡ counts_from no_items t.blocks.items
  pub places : vec_len t.counts ≡ vec_len t.blocks
  pub stores : Holds t.stores s
  pub rows : length s ≤ LAST_ROW

-- the slots of a table's rows
unfoldable pub slots_of : Table → List Slot
slots_of t =
    woven (block_kinds t.blocks.items) t.stores.numbers.items t.stores.words.items t.stores.bad.items t.stores.raw.items
    t.stores.codes.items

abbrev pub IsTable : Table → Type 0
IsTable t = IsTableOf t (slots_of t)

-- the column has the row
pub record HasRow (s : List Slot) (row : ℕ) : Type 0 where
  pub from : 1 ≤ row
  pub to : row ≤ length s

-- the block has the row, and so many items lie in front of it
pub record IsAtRow (row : ℕ) (s : List Slot) (b : Block) (c : Counts) : Type 0 where
  pub from : b.first ≤ row
  pub to : row ≤ b.last
  pub before : counted b.kind (row - b.first) c ≡ tally (take (row - 1) s)
  pub through : counted b.kind (row + 1 - b.first) c ≡ tally (take row s)
  pub kind : option_map kind_of (slice_get s (row - 1)) ≡ Some b.kind
  pub fits : total c + (row + 1 - b.first) < 2 ^ 31

-- the slot of a kind with the item at a place
abbrev pub stored_slot : Stores → Kind → Counts → Option Slot
stored_slot t Empty c = Some slot.Empty
stored_slot t Number c = option_map slot.Number (slice_get t.numbers.items c.numbers)
stored_slot t Words c = option_map slot.Words (slice_get t.words.items c.words)
stored_slot t Bad c = option_map slot.Bad (slice_get t.bad.items c.bad)
stored_slot t Raw c = option_map slot.Raw (slice_get t.raw.items c.raw)
stored_slot t Formula c = option_map slot.Formula (slice_get t.codes.items c.codes)

-- how many single rows can be set or cleared before memory is asked for
abbrev pub room_of : Table → ℕ
room_of t =
    min ((vec_capacity t.blocks - vec_len t.blocks) / 3)
    (min ((vec_capacity t.counts - vec_len t.blocks) / 3) (store_room t.stores))

-- n more blocks can be put in before memory is asked for
pub record HasPlaces (n : ℕ) (t : Table) : Type 0 where
  pub blocks : vec_len t.blocks + n ≤ vec_capacity t.blocks
  pub counts : vec_len t.blocks + n ≤ vec_capacity t.counts

-- a column without contents
unfoldable pub no_slots : List Slot
no_slots = replicate LAST_ROW slot.Empty

-- the table of a whole column
pub record IsColumn (t : Table) : Type 0 where
  pub table : IsTable t
  pub whole : length (slots_of t) ≡ LAST_ROW

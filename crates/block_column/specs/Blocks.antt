-- The blocks of a column: its maximal runs of slots of one kind.
use Rattle.std.specs.Prelude.{ℕ, ℤ, pos, ◌+◌, ◌-◌, List, [], ◌∷◌, ◌++◌, map, drop, replicate, get_or, Option, Some}
use Rattle.calc_model.specs.declared.fault.Fault.{Fault}
use Rattle.calc_model.specs.declared.fault.Fault.TheVariants.{NA}
use Rattle.run_tables.specs.Runs.{Run, runs_of}
use Rattle.block_column.specs.declared.slot.Slot.{Slot}
use Rattle.block_column.specs.declared.slot.Slot.TheVariants as slot
use Rattle.block_column.specs.declared.block.Kind.{Kind}
use Rattle.block_column.specs.declared.block.Kind.TheVariants.{Empty, Number, Words, Bad, Raw, Formula}
use Rattle.block_column.specs.declared.block.Block.{Block}
use Rattle.block_column.specs.declared.counts.Counts.{Counts}
use Rattle.block_column.specs.Kinds.{kind_of, same_kind}
use Rattle.block_column.specs.Counting.{counted}

abbrev pub block_run : Block → Run Kind
block_run b = record { first = b.first; last = b.last; key = b.kind }

abbrev pub a_block : Run Kind → Block
a_block r = record { first = r.first; last = r.last; kind = r.key }

-- what a row holds, as the key of a run: each row has one
abbrev pub kind_key : Slot → Option Kind
kind_key x = Some (kind_of x)

-- the blocks of a column
abbrev pub blocks_of : List Slot → List Block
blocks_of s = map a_block (runs_of same_kind (map kind_key s))

-- the items in front of each block, where some lie in front of the first
abbrev pub counts_from : Counts → List Block → List Counts
counts_from c [] = []
counts_from c (b ∷ t) = c ∷ counts_from (counted b.kind (b.last + 1 - b.first) c) t

-- the kinds of the rows of some blocks
abbrev pub block_kinds : List Block → List Kind
block_kinds [] = []
block_kinds (b ∷ t) = replicate (b.last + 1 - b.first) b.kind ++ block_kinds t

-- the slots of rows of some kinds, which take their items from one list a kind
abbrev pub woven : List Kind → List ℤ → List (List ℕ) → List Fault → List (List ℕ) → List ℕ → List Slot
woven [] ns ws bs rs cs = []
woven (Empty ∷ ks) ns ws bs rs cs = slot.Empty ∷ woven ks ns ws bs rs cs
woven (Number ∷ ks) ns ws bs rs cs = slot.Number (get_or ns 0 (pos 0)) ∷ woven ks (drop 1 ns) ws bs rs cs
woven (Words ∷ ks) ns ws bs rs cs = slot.Words (get_or ws 0 []) ∷ woven ks ns (drop 1 ws) bs rs cs
woven (Bad ∷ ks) ns ws bs rs cs = slot.Bad (get_or bs 0 NA) ∷ woven ks ns ws (drop 1 bs) rs cs
woven (Raw ∷ ks) ns ws bs rs cs = slot.Raw (get_or rs 0 []) ∷ woven ks ns ws bs (drop 1 rs) cs
woven (Formula ∷ ks) ns ws bs rs cs = slot.Formula (get_or cs 0 0) ∷ woven ks ns ws bs rs (drop 1 cs)

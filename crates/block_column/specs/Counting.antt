-- How many items of each kind some slots have.
use Rattle.std.specs.Prelude.{ℕ, ◌+◌, List, [], ◌∷◌}
use Rattle.block_column.specs.declared.slot.Slot.{Slot}
use Rattle.block_column.specs.declared.block.Kind.{Kind}
use Rattle.block_column.specs.declared.block.Kind.TheVariants.{Empty, Number, Words, Bad, Raw, Formula}
use Rattle.block_column.specs.declared.counts.Counts.{Counts}
use Rattle.block_column.specs.Kinds.{kind_of}

abbrev pub no_items : Counts
no_items = record { numbers = 0; words = 0; bad = 0; raw = 0; codes = 0 }

abbrev pub total : Counts → ℕ
total c = c.numbers + c.words + c.bad + c.raw + c.codes

-- so many more of a kind
abbrev pub counted : Kind → ℕ → Counts → Counts
counted Empty n c = c
counted Number n c = record c { numbers = c.numbers + n }
counted Words n c = record c { words = c.words + n }
counted Bad n c = record c { bad = c.bad + n }
counted Raw n c = record c { raw = c.raw + n }
counted Formula n c = record c { codes = c.codes + n }

-- the items of some slots, counted on
abbrev pub tallied : Counts → List Slot → Counts
tallied c [] = c
tallied c (x ∷ s) = tallied (counted (kind_of x) 1 c) s

-- the items of some slots
abbrev pub tally : List Slot → Counts
tally s = tallied no_items s

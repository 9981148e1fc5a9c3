-- The kinds of slots, and their words.
use Rattle.std.specs.Prelude.{ℕ, ◌==◌, Bool, true, false, List, codes}
use Rattle.block_column.specs.declared.slot.Slot.{Slot}
use Rattle.block_column.specs.declared.slot.Slot.TheVariants as slot
use Rattle.block_column.specs.declared.slot.SlotRef.{SlotRef}
use Rattle.block_column.specs.declared.slot.SlotRef.TheVariants as lent
use Rattle.block_column.specs.declared.block.Kind.{Kind}
use Rattle.block_column.specs.declared.block.Kind.TheVariants.{Empty, Number, Words, Bad, Raw, Formula}

abbrev pub kind_of : Slot → Kind
kind_of slot.Empty = Empty
kind_of (slot.Number n) = Number
kind_of (slot.Words text) = Words
kind_of (slot.Bad fault) = Bad
kind_of (slot.Raw text) = Raw
kind_of (slot.Formula id) = Formula

-- the slot that is lent
abbrev pub lent_slot : SlotRef → Slot
lent_slot lent.Empty = slot.Empty
lent_slot (lent.Number n) = slot.Number n
lent_slot (lent.Words text) = slot.Words text.now
lent_slot (lent.Bad fault) = slot.Bad fault
lent_slot (lent.Raw text) = slot.Raw text.now
lent_slot (lent.Formula id) = slot.Formula id

-- the word that a list of blocks is printed with
abbrev pub kind_text : Kind → List ℕ
kind_text Empty = codes "empty"
kind_text Number = codes "number"
kind_text Words = codes "text"
kind_text Bad = codes "error"
kind_text Raw = codes "raw"
kind_text Formula = codes "formula"

-- the place of a kind among the kinds
abbrev pub kind_rank : Kind → ℕ
kind_rank Empty = 0
kind_rank Number = 1
kind_rank Words = 2
kind_rank Bad = 3
kind_rank Raw = 4
kind_rank Formula = 5

abbrev pub same_kind : Kind → Kind → Bool
same_kind k l = kind_rank k == kind_rank l

-- the slot isn't empty
abbrev pub is_filled : Slot → Bool
is_filled slot.Empty = false
is_filled _ = true

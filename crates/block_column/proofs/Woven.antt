-- Slots from their kinds and items.
use Rattle.std.proofs.Common.{◌≡◌, List, [], ◌∷◌, map, refl, ap}
use Rattle.std.specs.List.{filter_map}
use Rattle.block_column.specs.declared.slot.Slot.{Slot}
use Rattle.block_column.specs.declared.slot.Slot.TheVariants.{Empty, Number, Words, Bad, Raw, Formula}
use Rattle.block_column.specs.Kinds.{kind_of}
use Rattle.block_column.specs.Stores.{a_number, a_text, a_fault, a_raw, a_code}
use Rattle.block_column.specs.Blocks.{woven}

pub woven-back : (s : List Slot) → woven (map kind_of s) (filter_map a_number s) (filter_map a_text s) (filter_map a_fault s) (filter_map a_raw s) (filter_map a_code s) ≡ s
woven-back [] = refl
woven-back (Empty ∷ s) = ap (λ v. Empty ∷ v) (woven-back s)
woven-back (Number n ∷ s) = ap (λ v. Number n ∷ v) (woven-back s)
woven-back (Words text ∷ s) = ap (λ v. Words text ∷ v) (woven-back s)
woven-back (Bad fault ∷ s) = ap (λ v. Bad fault ∷ v) (woven-back s)
woven-back (Raw text ∷ s) = ap (λ v. Raw text ∷ v) (woven-back s)
woven-back (Formula id ∷ s) = ap (λ v. Formula id ∷ v) (woven-back s)

-- The items of each kind of slot, in the order of their rows.
use Rattle.std.specs.Prelude.{◌≡◌, ℕ, ℤ, ◌+◌, ◌≤◌, min, List, ◌++◌, length, take, drop, Option, None, Some, vec_len}
use Rattle.std.specs.List.{filter_map}
use Rattle.calc_model.specs.declared.fault.Fault.{Fault}
use Rattle.block_column.specs.declared.slot.Slot.{Slot}
use Rattle.block_column.specs.declared.slot.Slot.TheVariants.{Number, Words, Bad, Raw, Formula}
use Rattle.block_column.specs.declared.counts.Counts.{Counts}
use Rattle.block_column.specs.declared.more.More.{More}
use Rattle.block_column.specs.declared.stores.Stores.{Stores}

abbrev pub a_number : Slot → Option ℤ
a_number (Number n) = Some n
a_number _ = None

abbrev pub a_text : Slot → Option (List ℕ)
a_text (Words text) = Some text
a_text _ = None

abbrev pub a_fault : Slot → Option Fault
a_fault (Bad fault) = Some fault
a_fault _ = None

abbrev pub a_raw : Slot → Option (List ℕ)
a_raw (Raw text) = Some text
a_raw _ = None

abbrev pub a_code : Slot → Option ℕ
a_code (Formula id) = Some id
a_code _ = None

-- the stores have the items of some slots
pub record Holds (stores : Stores) (s : List Slot) : Type 0 where
  pub numbers : stores.numbers.items ≡ filter_map a_number s
  pub words : stores.words.items ≡ filter_map a_text s
  pub bad : stores.bad.items ≡ filter_map a_fault s
  pub raw : stores.raw.items ≡ filter_map a_raw s
  pub codes : stores.codes.items ≡ filter_map a_code s

-- the items to come are those of some slots
pub record Gives (more : More) (s : List Slot) : Type 0 where
  pub numbers : more.numbers.items ≡ filter_map a_number s
  pub words : more.words.items ≡ filter_map a_text s
  pub bad : more.bad.items ≡ filter_map a_fault s
  pub raw : more.raw.items ≡ filter_map a_raw s
  pub codes : more.codes.items ≡ filter_map a_code s

-- how many items of any kind can be put in before memory is asked for
abbrev pub store_room : Stores → ℕ
store_room t =
    min t.numbers.room (min t.words.room (min t.bad.room (min t.raw.room t.codes.room)))

-- the items stay, and the room doesn't shrink
pub record KeepsRoom (old new : Stores) : Type 0 where
  pub numbers : new.numbers.items ≡ old.numbers.items
  pub words : new.words.items ≡ old.words.items
  pub bad : new.bad.items ≡ old.bad.items
  pub raw : new.raw.items ≡ old.raw.items
  pub codes : new.codes.items ≡ old.codes.items
  pub room : store_room old ≤ store_room new

-- the items from the low places to the high ones can be taken out, and n put in there
pub record CanReplace (stores : Stores) (low high : Counts) : Type 0 where
  pub numbers : (low.numbers ≤ high.numbers) × (high.numbers ≤ length stores.numbers.items)
  pub words : (low.words ≤ high.words) × (high.words ≤ length stores.words.items)
  pub bad : (low.bad ≤ high.bad) × (high.bad ≤ length stores.bad.items)
  pub raw : (low.raw ≤ high.raw) × (high.raw ≤ length stores.raw.items)
  pub codes : (low.codes ≤ high.codes) × (high.codes ≤ length stores.codes.items)

-- at most one item of each kind
pub record IsOneRow (low high : Counts) : Type 0 where
  pub numbers : high.numbers ≤ low.numbers + 1
  pub words : high.words ≤ low.words + 1
  pub bad : high.bad ≤ low.bad + 1
  pub raw : high.raw ≤ low.raw + 1
  pub codes : high.codes ≤ low.codes + 1

-- there is room for more items, kind by kind
pub record HasRoom (stores : Stores) (more : More) : Type 0 where
  pub numbers : vec_len more.numbers ≤ stores.numbers.room
  pub words : vec_len more.words ≤ stores.words.room
  pub bad : vec_len more.bad ≤ stores.bad.room
  pub raw : vec_len more.raw ≤ stores.raw.room
  pub codes : vec_len more.codes ≤ stores.codes.room

-- the items of s take the place of those from the low places to the high ones
pub record IsReplaced (old new : Stores) (low high : Counts) (s : List Slot) : Type 0 where
  pub numbers : new.numbers.items ≡ take low.numbers old.numbers.items ++ (filter_map a_number s ++ drop high.numbers old.numbers.items)
  pub words : new.words.items ≡ take low.words old.words.items ++ (filter_map a_text s ++ drop high.words old.words.items)
  pub bad : new.bad.items ≡ take low.bad old.bad.items ++ (filter_map a_fault s ++ drop high.bad old.bad.items)
  pub raw : new.raw.items ≡ take low.raw old.raw.items ++ (filter_map a_raw s ++ drop high.raw old.raw.items)
  pub codes : new.codes.items ≡ take low.codes old.codes.items ++ (filter_map a_code s ++ drop high.codes old.codes.items)

-- how many items there are
abbrev pub item_count : Stores → ℕ
item_count t = length t.numbers.items + (length t.words.items + length t.raw.items) + (length t.bad.items + length t.codes.items)

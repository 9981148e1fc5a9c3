-- What the rows of a column show, by their tags and items. The first row's number is 0.
use Rattle.std.specs.Prelude.{◌≡◌, ℕ, ℤ, false, pos, negsuc, int_le, ◌+◌, ◌^◌, ◌-◌, Bool, ◌≤◌, ◌<◌, ◌&&◌, nat_le, nat_lt, if◌then◌else◌, List, [], map, slice_index_or, vec_len}
use Rattle.std.specs.List.{range_with_len}
use Rattle.std.specs.Vec.{vec_capacity}
use Rattle.calc_num.specs.Decimals.{IsRaw}
use Rattle.calc_addr.specs.declared.cell.TheConstants.{LAST_ROW}
use Rattle.calc_model.specs.declared.fault.Fault.{Fault}
use Rattle.calc_model.specs.declared.fault.Fault.TheVariants.{NA}
use Rattle.calc_model.specs.declared.value.Value.{Value}
use Rattle.calc_model.specs.declared.value.Value.TheVariants as value
use Rattle.value_column.specs.declared.lane.Tag.{Tag}
use Rattle.value_column.specs.declared.lane.Tag.TheVariants as tag
use Rattle.value_column.specs.declared.item.Item.{Item}
use Rattle.value_column.specs.declared.item.Item.TheVariants.{Blank, Small, Wide, Words, Bad}
use Rattle.value_column.specs.declared.lanes.Lanes.{Lanes}

abbrev pub item_value : Item → Value
item_value Blank = value.Blank
item_value (Small n) = value.Number n
item_value (Wide n) = value.Number n
item_value (Words text) = value.Words text
item_value (Bad fault) = value.Bad fault

-- the raw number fits in 64 bits
abbrev pub is_small : ℤ → Bool
is_small n = int_le (negsuc (2 ^ 63 - 1)) n && int_le n (pos (2 ^ 63 - 1))

-- the item stands for a value
abbrev pub IsItem : Item → Type 0
IsItem (Wide n) = IsRaw n × (is_small n ≡ false)
IsItem _ = Unit {0}

-- what a row shows by its tag and the items in the lanes
abbrev pub value_in : Tag → ℤ → ℤ → List ℕ → Fault → Value
value_in tag.Blank n w text fault = value.Blank
value_in tag.Small n w text fault = value.Number n
value_in tag.Wide n w text fault = value.Number w
value_in tag.Words n w text fault = value.Words text
value_in tag.Bad n w text fault = value.Bad fault

abbrev pub value_at : Lanes → ℕ → Value
value_at t r =
    value_in (slice_index_or t.tags.items r tag.Blank) (slice_index_or t.small.items r (pos 0))
    (slice_index_or t.wide.items r (pos (2 ^ 63))) (slice_index_or t.words.items r []) (slice_index_or t.bad.items r NA)

-- the lane of the row's tag has the row
abbrev pub LaneHas : Lanes → ℕ → Tag → Type 0
LaneHas t r tag.Blank = Unit {0}
LaneHas t r tag.Small = r < vec_len t.small
LaneHas t r tag.Wide = r < vec_len t.wide
LaneHas t r tag.Words = r < vec_len t.words
LaneHas t r tag.Bad = r < vec_len t.bad

-- the lanes are those of a column
pub record AreLanes (t : Lanes) : Type 0 where
  pub rows : vec_len t.tags ≤ LAST_ROW
  pub wide : vec_len t.wide ≤ LAST_ROW
  pub raw : (r : ℕ) → IsRaw (slice_index_or t.wide.items r (pos (2 ^ 63)))
  pub large : (r : ℕ) → is_small (slice_index_or t.wide.items r (pos (2 ^ 63))) ≡ false
  pub tagged : (r : ℕ) → LaneHas t r (slice_index_or t.tags.items r tag.Blank)

abbrev pub tag_of : Item → Tag
tag_of Blank = tag.Blank
tag_of (Small n) = tag.Small
tag_of (Wide n) = tag.Wide
tag_of (Words text) = tag.Words
tag_of (Bad fault) = tag.Bad

-- the lane that keeps a value
abbrev pub value_tag : Value → Tag
value_tag (value.Number n) = if is_small n then tag.Small else tag.Wide
value_tag (value.Words text) = tag.Words
value_tag (value.Bad fault) = tag.Bad
value_tag value.Blank = tag.Blank

-- the lanes have a row for a tag
pub record IsReady (t : Lanes) (r : ℕ) (g : Tag) : Type 0 where
  pub tags : r < vec_len t.tags
  pub lane : LaneHas t r g

-- tags and small numbers reach row a, and have room for the rows in front of row b
pub record IsOpenTo (t : Lanes) (a b : ℕ) : Type 0 where
  pub tags : (a ≤ vec_len t.tags) × (b ≤ vec_capacity t.tags)
  pub small : (a ≤ vec_len t.small) × (b ≤ vec_capacity t.small)

-- no lane is shorter, nor has less room
pub record IsLonger (old new : Lanes) : Type 0 where
  pub tags : (vec_len old.tags ≤ vec_len new.tags) × (vec_capacity old.tags ≤ vec_capacity new.tags)
  pub small : (vec_len old.small ≤ vec_len new.small) × (vec_capacity old.small ≤ vec_capacity new.small)
  pub wide : (vec_len old.wide ≤ vec_len new.wide) × (vec_capacity old.wide ≤ vec_capacity new.wide)
  pub words : (vec_len old.words ≤ vec_len new.words) × (vec_capacity old.words ≤ vec_capacity new.words)
  pub bad : (vec_len old.bad ≤ vec_len new.bad) × (vec_capacity old.bad ≤ vec_capacity new.bad)

-- each lane has room for all rows of a sheet
pub record HasRoom (t : Lanes) : Type 0 where
  pub tags : LAST_ROW ≤ vec_capacity t.tags
  pub small : LAST_ROW ≤ vec_capacity t.small
  pub wide : LAST_ROW ≤ vec_capacity t.wide
  pub words : LAST_ROW ≤ vec_capacity t.words
  pub bad : LAST_ROW ≤ vec_capacity t.bad

-- the rows from a to the one in front of b are blank
abbrev pub cleared : ℕ → ℕ → (ℕ → Value) → ℕ → Value
cleared a b f r = if nat_le a r && nat_lt r b then value.Blank else f r

-- the tags of those rows are blank
abbrev pub untagged : ℕ → ℕ → (ℕ → Tag) → ℕ → Tag
untagged a b f r = if nat_le a r && nat_lt r b then tag.Blank else f r

-- the values of a column's rows
unfoldable pub column_of : Lanes → List Value
column_of t = map (value_at t) (range_with_len 0 LAST_ROW)

-- as many rows as can be asked for
unfoldable pub ANY : ℕ
ANY = 2 ^ 64 - 1

-- how many single rows can be set or cleared before memory is asked for: any, or none
abbrev pub spare_of : Lanes → ℕ
spare_of t =
    if nat_le LAST_ROW (vec_capacity t.tags) && (nat_le LAST_ROW (vec_capacity t.small) && (nat_le LAST_ROW (vec_capacity t.wide)
    && (nat_le LAST_ROW (vec_capacity t.words) && nat_le LAST_ROW (vec_capacity t.bad)))) then ANY else 0

-- n rows behind the first a show what is given for each
abbrev pub written : ℕ → ℕ → (ℕ → Value) → (ℕ → Value) → ℕ → Value
written a n vs f r = if nat_le a r && nat_lt r (a + n) then vs (r - a) else f r

-- the lanes have rows for the first n of the values
abbrev pub AreReady : Lanes → ℕ → List Value → ℕ → Type 0
AreReady t a vs n = (k : ℕ) → k < n → IsReady t (a + k) (value_tag (slice_index_or vs k value.Blank))

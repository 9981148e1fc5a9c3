-- The values of neighbouring rows of one kind.
use Rattle.std.specs.Prelude.{◌≡◌, ◌≢◌, ◌<◌, ◌≤◌, slice_index_or, ◌+◌, ℕ, List, [], ◌++◌, map, length, replicate, Option, MatchOption}
use Rattle.std.specs.List.{range_with_len}
use Rattle.calc_model.specs.declared.value.Value.{Value}
use Rattle.calc_model.specs.declared.value.Value.TheVariants as value
use Rattle.value_column.specs.declared.lanes.Lanes.{Lanes}
use Rattle.value_column.specs.declared.lane.Tag.{Tag}
use Rattle.value_column.specs.declared.lane.Tag.TheVariants as tag
use Rattle.value_column.specs.Rows.{value_at, value_tag}
use Rattle.value_column.specs.declared.span.ValueSpan.{ValueSpan}
use Rattle.value_column.specs.declared.span.ValueSpan.TheVariants.{Small, Wide, Words, Faults, Blank}

abbrev pub span_values : ValueSpan → List Value
span_values (Small first items) = map value.Number items.now
span_values (Wide first items) = map value.Number items.now
span_values (Words first items) = map value.Words items.now
span_values (Faults first items) = map value.Bad items.now
span_values (Blank first count) = replicate count value.Blank

abbrev pub span_first : ValueSpan → ℕ
span_first (Small first items) = first
span_first (Wide first items) = first
span_first (Words first items) = first
span_first (Faults first items) = first
span_first (Blank first count) = first

-- the kind of each of its values
abbrev pub span_kind : ValueSpan → Tag
span_kind (Small first items) = tag.Small
span_kind (Wide first items) = tag.Wide
span_kind (Words first items) = tag.Words
span_kind (Faults first items) = tag.Bad
span_kind (Blank first count) = tag.Blank

-- the rows that are still to come: the number of the first, and the values
pub record RowsLeft : Type 0 where
  pub first : ℕ
  pub values : List Value

-- a span of the rows that are left, and the rows behind it
pub record IsNextSpan (left : RowsLeft) (span : ValueSpan) (after : RowsLeft) : Type 0 where
  pub first : span_first span ≡ left.first
  pub some : 1 ≤ length (span_values span)
  pub values : left.values ≡ span_values span ++ after.values
  pub behind : after.first ≡ left.first + length (span_values span)
  pub kinds : (k : ℕ) → k < length (span_values span) → value_tag (slice_index_or (span_values span) k value.Blank) ≡ span_kind span
  pub longest : 1 ≤ length after.values → value_tag (slice_index_or after.values 0 value.Blank) ≢ span_kind span

-- a span of the rows that are left, or none where no row is
abbrev pub YieldsSpan : RowsLeft → Option ValueSpan → RowsLeft → Type 0
YieldsSpan left span after = MatchOption span ((left.values ≡ []) × (after.values ≡ [])) (λ s. IsNextSpan left s after)

-- the values of n rows of lanes from one on
abbrev pub rows_left : Lanes → ℕ → ℕ → List Value
rows_left t from n = map (λ k. value_at t (from + k)) (range_with_len 0 n)

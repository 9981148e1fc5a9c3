-- What watchers are told. A watcher of an area knows a value for each of its cells. It is told, in area order, of
-- each cell whose value differs from the one that it knows, by the cell and the text that it shows, and from then on
-- knows the values that the cells have.
use Rattle.std.specs.Prelude.{◌≡◌, ℕ, ◌+◌, Bool, true, false, List, [], ◌∷◌, ◌++◌, map, take, drop, if◌then◌else◌}
use Rattle.std.specs.List.{flat_map}
use Rattle.std.specs.Ordering.{int_eq}
use Rattle.std.specs.Str.{bytes_eq}
use Rattle.calc_addr.specs.Addresses.{address}
use Rattle.calc_addr.specs.Places.{Place, Rectangle, places}
use Rattle.calc_model.specs.Meanings.{values_in}
use Rattle.calc_model.specs.Scalars.{CellValues}
use Rattle.calc_model.specs.ValueTexts.{fault_text, text_of}
use Rattle.calc_model.specs.declared.value.Value.{Value}
use Rattle.calc_model.specs.declared.value.Value.TheVariants.{Number, Words, Bad, Blank}
use Rattle.csv_records.specs.Records.{record_text}
use Rattle.calc_watch.specs.declared.report.Report.{Report}

-- a watcher with its area, the values that it last knew, and all that it was told
pub record Watched : Type 0 where
  pub area : Rectangle
  pub known : List Value
  pub told : List Report

abbrev pub watched : Rectangle → List Value → List Report → Watched
watched area known told = record { area = area; known = known; told = told }

-- whether two values are one; faults are told apart by their texts
abbrev pub same_value : Value → Value → Bool
same_value (Number n) (Number m) = int_eq n m
same_value (Words text) (Words other) = bytes_eq text other
same_value (Bad fault) (Bad other) = bytes_eq (fault_text fault) (fault_text other)
same_value Blank Blank = true
same_value value other = false

-- The test tells values apart.
abbrev pub TellsValuesApart : Type 0
TellsValuesApart = (value other : Value) → (same_value value other ≡ true → value ≡ other) × (value ≡ other → same_value value other ≡ true)

abbrev pub report_of : CellValues → Place → Report
report_of values cell = record { cell = cell; shown = text_of (values cell) }

-- the reports of cells, from the values that are known of them
abbrev pub changes : CellValues → List Place → List Value → List Report
changes values [] known = []
changes values (cell ∷ cells) [] = []
changes values (cell ∷ cells) (value ∷ known) =
    if same_value (values cell) value then changes values cells known
    else report_of values cell ∷ changes values cells known

abbrev pub reports : CellValues → Watched → List Report
reports values watch = changes values (places watch.area) watch.known

-- the watcher when it was told of all changes
abbrev pub told_all : CellValues → Watched → Watched
told_all values watch = watched watch.area (values_in values watch.area) (watch.told ++ reports values watch)

-- the watcher when it was told of the first of them alone, and knows what it knew
abbrev pub told_first : CellValues → ℕ → Watched → Watched
told_first values count watch = record watch { told = watch.told ++ take count (reports values watch) }

-- So many watchers were told of all changes, the next one of some of them from the first on, and the others of none.
pub record IsToldInPart (values : CellValues) (old new : List Watched) : Type 0 where
  pub whole : ℕ
  pub count : ℕ
  pub is : new ≡ map (told_all values) (take whole old) ++ map (told_first values count) (take 1 (drop whole old)) ++ drop (whole + 1) old

-- a line for each report: a record of the cell's address and the text that it shows
abbrev pub report_line : Report → List ℕ
report_line report = record_text (address report.cell ∷ report.shown ∷ [])

unfoldable pub described : List Report → List ℕ
described told = flat_map report_line told

-- Criteria, after OpenFormula, 4.11.8: which cells a value picks. A text may begin with a comparison; else equality is
-- meant. What is left of it is a number where it reads as one, else a text.
use Rattle.std.specs.Prelude.{ℕ, ◌||◌, nat_eq, not, Bool, true, false, List, [], codes, drop, Option, Some, None, if◌then◌else◌}
use Rattle.std.specs.List.{starts_with}
use Rattle.std.specs.Cmp.Lexicographic.{slice_cmp}
use Rattle.std.specs.Ordering.{int_cmp, is_eq, is_ge, is_gt, is_le, is_lt, nat_cmp}
use Rattle.std.specs.declared.cmp.Ordering.{Ordering}
use Rattle.calc_num.specs.Spelling.{reading}
use Rattle.calc_num.specs.declared.parse.Reading.{Reading}
use Rattle.calc_num.specs.declared.parse.Reading.TheVariants as readings
use Rattle.calc_model.specs.declared.tree.Op.{Op}
use Rattle.calc_model.specs.declared.tree.Op.TheVariants.{Eq, Ne, Lt, Le, Gt, Ge}
use Rattle.calc_model.specs.declared.value.Value.{Value}
use Rattle.calc_model.specs.declared.value.Value.TheVariants.{Number, Words, Blank}

pub record Criterion : Type 0 where
  pub op : Op
  pub with : Value

-- a number where it reads as one in range, else a text
abbrev pub read_or_words : Reading → List ℕ → Value
read_or_words (readings.Number n) bytes = Number n
read_or_words _ bytes = Words bytes

abbrev pub criterion_by : Op → List ℕ → Criterion
criterion_by op bytes = record { op = op; with = read_or_words (reading bytes) bytes }

abbrev pub begins : List ℕ → List ℕ → Bool
begins bytes front = starts_with nat_eq bytes front

abbrev pub criterion_of_text : List ℕ → Criterion
criterion_of_text bytes =
    if begins bytes (codes "<>") then criterion_by Ne (drop 2 bytes)
    else (if begins bytes (codes "<=") then criterion_by Le (drop 2 bytes)
    else (if begins bytes (codes ">=") then criterion_by Ge (drop 2 bytes)
    else (if begins bytes (codes "=") then criterion_by Eq (drop 1 bytes)
    else (if begins bytes (codes "<") then criterion_by Lt (drop 1 bytes)
    else (if begins bytes (codes ">") then criterion_by Gt (drop 1 bytes)
    else criterion_by Eq bytes)))))

abbrev pub criterion : Value → Criterion
criterion (Words bytes) = criterion_of_text bytes
criterion value = record { op = Eq; with = value }

-- how a cell compares with a value of its own kind, number or text
abbrev pub order_in_kind : Value → Value → Option Ordering
order_in_kind (Number n) (Number m) = Some (int_cmp n m)
order_in_kind (Words s) (Words t) = Some (slice_cmp nat_cmp s t)
order_in_kind _ _ = None

abbrev pub passes : (Ordering → Bool) → Option Ordering → Bool
passes test (Some order) = test order
passes test None = false

-- the empty text is equal to a blank cell too
abbrev pub is_blank_as_text : Value → Value → Bool
is_blank_as_text Blank (Words []) = true
is_blank_as_text _ _ = false

abbrev pub is_equal : Value → Value → Bool
is_equal cell with = passes is_eq (order_in_kind cell with) || is_blank_as_text cell with

-- whether the cell matches
abbrev pub matches_by : Op → Value → Value → Bool
matches_by Ne cell with = not (is_equal cell with)
matches_by Lt cell with = passes is_lt (order_in_kind cell with)
matches_by Le cell with = passes is_le (order_in_kind cell with)
matches_by Gt cell with = passes is_gt (order_in_kind cell with)
matches_by Ge cell with = passes is_ge (order_in_kind cell with)
matches_by _ cell with = is_equal cell with

abbrev pub matches : Criterion → Value → Bool
matches c cell = matches_by c.op cell c.with

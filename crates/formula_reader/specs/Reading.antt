-- The reading of a formula's text: its tree, where the text spells one within the limits.
use Rattle.std.specs.Prelude.{ℕ, ◌==◌, ◌-◌, nat_eq, nat_lt, Bool, true, false, List, drop, length, codes, Option, Some, None, if◌then◌else◌}
use Rattle.std.specs.List.{starts_with}
use Rattle.calc_model.specs.declared.limits.TheConstants.{MOST_FORMULA_BYTES, MOST_OPEN, MOST_PARAMETERS, MOST_TOKENS}
use Rattle.calc_model.specs.declared.tree.Tree.{Tree}
use Rattle.formula_reader.specs.Unread.{◌>>=◌, Unread, next_is, skip}
use Rattle.formula_reader.specs.Operands.{inside_at, operands_at}

-- without the byte in front, if it is this one
abbrev pub without : ℕ → List ℕ → List ℕ
without byte text = if next_is byte text then drop 1 text else text

-- what stands behind `=` and a second one at once after it
abbrev pub behind_equals : List ℕ → Option (List ℕ)
behind_equals text = if next_is 61 text then Some (without 61 (drop 1 text)) else None

-- what stands behind the front of a formula
abbrev pub behind_front : List ℕ → Option (List ℕ)
behind_front text = behind_equals (if starts_with nat_eq text (codes "of:") then drop 3 text else text)

-- the tree, where nothing is left behind it
abbrev pub whole : Tree × Unread → Option Tree
whole read = if length read.1.bytes == 0 then Some read.0 else None

-- a comparison with so many more parameters, open parentheses and tokens
abbrev pub comparison_within : ℕ → ℕ → ℕ → List ℕ → Option Tree
comparison_within more depth tokens bytes = operands_at (inside_at more depth) 6 (record { bytes = skip bytes; tokens = tokens }) >>= whole

abbrev pub formula_within : ℕ → ℕ → ℕ → List ℕ → Option Tree
formula_within more depth tokens text = behind_front text >>= comparison_within more depth tokens

-- a comparison within the limits of reading
abbrev pub comparison_in_limits : List ℕ → Option Tree
comparison_in_limits bytes = comparison_within (MOST_PARAMETERS - 1) MOST_OPEN MOST_TOKENS bytes

abbrev pub formula_by : Bool → List ℕ → Option Tree
formula_by true text = None
formula_by false text = behind_front text >>= comparison_in_limits

-- the formula that the text spells within the limits of reading, if it spells one
unfoldable pub formula_of : List ℕ → Option Tree
formula_of text = formula_by (nat_lt MOST_FORMULA_BYTES (length text)) text

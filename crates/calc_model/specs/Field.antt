-- What a cell holds whose field is a text, by the first case that holds: nothing; too long a text, which is the
-- constant `#OVER!`; a formula, where the text begins as one and spells one within the limits, or else raw
-- text; a number, or the constant `#OVER!` where it is too large; an error constant's text; any other text.
use Rattle.std.specs.Prelude.{◌≡◌, ℕ, ◌||◌, nat_eq, nat_lt, Bool, List, [], ◌∷◌, codes, length, Option, Some, None, if◌then◌else◌}
use Rattle.std.specs.List.{find, starts_with}
use Rattle.std.specs.Str.{bytes_eq}
use Rattle.calc_num.specs.Spelling.{reading}
use Rattle.calc_num.specs.declared.parse.Reading.{Reading}
use Rattle.calc_num.specs.declared.parse.Reading.TheVariants as readings
use Rattle.calc_model.specs.declared.fault.Fault.{Fault}
use Rattle.calc_model.specs.declared.fault.Fault.TheVariants.{NA, DivZero, BadValue, BadRef, BadName, BadNum, Null, Over}
use Rattle.calc_model.specs.declared.value.Value.TheVariants.{Number, Words, Bad}
use Rattle.calc_model.specs.declared.tree.Tree.{Tree}
use Rattle.calc_model.specs.declared.content.Content.{Content}
use Rattle.calc_model.specs.declared.content.Content.TheVariants.{Empty, Constant, Formula, Raw}
use Rattle.calc_model.specs.declared.limits.TheConstants.{MOST_FIELD_BYTES}
use Rattle.calc_model.specs.Grammar.{Spells}
use Rattle.calc_model.specs.Limits.{InLimits}
use Rattle.calc_model.specs.ValueTexts.{fault_text}

-- The formula that is read of a text: the one that it spells, if the text is within the limits.
abbrev pub IsReadAs : List ℕ → Option Tree → Type 0
IsReadAs text (Some tree) = Spells text tree × InLimits text
IsReadAs text None = (tree : Tree) → ¬ (Spells text tree × InLimits text)

abbrev pub begins_formula : List ℕ → Bool
begins_formula text = starts_with nat_eq text (codes "=") || starts_with nat_eq text (codes "of:=")

abbrev pub formula_or_raw : Option Tree → List ℕ → Content
formula_or_raw (Some tree) text = Formula tree
formula_or_raw None text = Raw text

-- the faults that have a constant
abbrev pub error_constants : List Fault
error_constants = NA ∷ DivZero ∷ BadValue ∷ BadRef ∷ BadName ∷ BadNum ∷ Null ∷ Over ∷ []

-- the error constant that is written so, if there is one
abbrev pub error_of : List ℕ → Option Fault
error_of text = find (λ fault. bytes_eq text (fault_text fault)) error_constants

abbrev pub error_or_words : Option Fault → List ℕ → Content
error_or_words (Some fault) text = Constant (Bad fault)
error_or_words None text = Constant (Words text)

abbrev pub constant_of : Reading → List ℕ → Content
constant_of (readings.Number n) text = Constant (Number n)
constant_of readings.TooLarge text = Constant (Bad Over)
constant_of readings.NotNumber text = error_or_words (error_of text) text

-- the content of a text that isn't empty and not too long
abbrev pub kept : Option Tree → List ℕ → Content
kept formula text = if begins_formula text then formula_or_raw formula text else constant_of (reading text) text

-- the content of a text, with the formula that is read of it
abbrev pub content_by : Option Tree → List ℕ → Content
content_by formula [] = Empty
content_by formula (byte ∷ rest) =
    if nat_lt MOST_FIELD_BYTES (length (byte ∷ rest)) then Constant (Bad Over) else kept formula (byte ∷ rest)

pub record IsField (text : List ℕ) (content : Content) : Type 0 where
  pub formula : Option Tree
  pub is_read : IsReadAs text formula
  pub content_is : content ≡ content_by formula text

-- The meaning of fields: the content of each text.
abbrev pub ReadsFields : (List ℕ → Content) → Type 0
ReadsFields field = (text : List ℕ) → IsField text (field text)

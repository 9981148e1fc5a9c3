-- Functions of logical values and of kinds of values, after OpenFormula, 6.15 and 6.13.
use Rattle.std.specs.Prelude.{ℤ, pos, not, Bool, true, false, List, [], ◌∷◌, if◌then◌else◌}
use Rattle.std.specs.List.{list_all, list_any}
use Rattle.std.specs.Ordering.{int_eq}
use Rattle.calc_model.specs.declared.fault.Fault.TheVariants.{NA, BadValue}
use Rattle.calc_model.specs.declared.value.Value.{Value}
use Rattle.calc_model.specs.declared.value.Value.TheVariants.{Number, Words, Bad, Blank}
use Rattle.calc_model.specs.Lists.{numbers}
use Rattle.calc_model.specs.Meanings.{Meaning}
use Rattle.calc_model.specs.Operators.{from_ok, truth}
use Rattle.calc_model.specs.Parameters.{truth_value}

abbrev pub is_true : ℤ → Bool
is_true n = not (int_eq n (pos 0))

-- a test over the numbers of a list, of one at least
abbrev pub of_some : (List ℤ → Bool) → List ℤ → Value
of_some test [] = Bad BadValue
of_some test (n ∷ ns) = truth (test (n ∷ ns))

abbrev pub and : List Meaning → Value
and parameters = from_ok (numbers parameters) (of_some (list_all is_true))

abbrev pub or : List Meaning → Value
or parameters = from_ok (numbers parameters) (of_some (list_any is_true))

abbrev pub not_ : List Meaning → Value
not_ (x ∷ []) = from_ok (truth_value x) (λ b. truth (not b))
not_ _ = Bad BadValue

abbrev pub true_ : List Meaning → Value
true_ _ = truth true

abbrev pub false_ : List Meaning → Value
false_ _ = truth false

abbrev pub not_available : List Meaning → Value
not_available _ = Bad NA

-- The value that is taken; the other one doesn't count. Without a third parameter it is 0.
abbrev pub if_ : List Meaning → Value
if_ (test ∷ first ∷ []) = from_ok (truth_value test) (λ b. if b then first.scalar else Number (pos 0))
if_ (test ∷ first ∷ second ∷ []) = from_ok (truth_value test) (λ b. if b then first.scalar else second.scalar)
if_ _ = Bad BadValue

abbrev pub or_else : Value → Value → Value
or_else (Bad fault) other = other
or_else value other = value

abbrev pub if_error : List Meaning → Value
if_error (x ∷ other ∷ []) = or_else x.scalar other.scalar
if_error _ = Bad BadValue

abbrev pub is_error : Value → Bool
is_error (Bad fault) = true
is_error _ = false

abbrev pub is_not_available : Value → Bool
is_not_available (Bad NA) = true
is_not_available _ = false

abbrev pub is_number : Value → Bool
is_number (Number n) = true
is_number _ = false

abbrev pub is_text : Value → Bool
is_text (Words text) = true
is_text _ = false

abbrev pub is_blank : Value → Bool
is_blank Blank = true
is_blank _ = false

-- ISERROR, ISNA, ISNUMBER, ISTEXT and ISBLANK
abbrev pub of_kind : (Value → Bool) → List Meaning → Value
of_kind test (x ∷ []) = truth (test x.scalar)
of_kind test _ = Bad BadValue

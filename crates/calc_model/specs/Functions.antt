-- The functions: their names, how many parameters they take, and what they give, after OpenFormula, 6.
use Rattle.std.specs.Prelude.{ℕ, ◌&&◌, nat_le, Bool, List, [], ◌∷◌, ◌++◌, codes, length, Option, Some, None, option_map, if◌then◌else◌}
use Rattle.std.specs.List.{find}
use Rattle.std.specs.Str.{bytes_eq}
use Rattle.calc_addr.specs.Places.{Place, Rectangle}
use Rattle.calc_model.specs.declared.fault.Fault.TheVariants.{BadName, BadValue}
use Rattle.calc_model.specs.declared.function.Form.{Form}
use Rattle.calc_model.specs.declared.function.Function.{Function}
use Rattle.calc_model.specs.declared.function.Function.TheVariants as function
use Rattle.calc_model.specs.declared.limits.TheConstants.{MOST_PARAMETERS}
use Rattle.calc_model.specs.declared.value.Value.{Value}
use Rattle.calc_model.specs.declared.value.Value.TheVariants.{Bad}
use Rattle.calc_model.specs.Logic.{and, false_, if_, if_error, is_blank, is_error, is_not_available, is_number, is_text, not_, not_available, of_kind, or, true_}
use Rattle.calc_model.specs.Lookup.{choose, col_count, first_of, index, look_up, looked_up_along, looked_up_down, match_, row_count, size_of}
use Rattle.calc_model.specs.Meanings.{Meaning}
use Rattle.calc_model.specs.Rounding.{abs, int, mod_, power, quotient_, round, round_down, round_up, sign, square_root}
use Rattle.calc_model.specs.Statistics.{average, count, count_a, count_blank, count_if, max_, min_, product, sum, sum_if}
use Rattle.calc_model.specs.Texts.{concatenate, exact, find_, left, len, mid, rept, right, value}

abbrev pub form : Function → ℕ → ℕ → Form
form function least most = record { function = function; least = least; most = most }

-- Names, and for each the function and the least and the most parameters that it takes.
abbrev pub Forms : Type 0
Forms = List (List ℕ × Form)

-- functions of numbers, 6.16 and 6.17
abbrev pub forms_of_numbers : Forms
forms_of_numbers =
    (codes "ABS", form function.Abs 1 1)
    ∷ (codes "SIGN", form function.Sign 1 1)
    ∷ (codes "INT", form function.Int 1 1)
    ∷ (codes "TRUNC", form function.Trunc 1 2)
    ∷ (codes "ROUNDDOWN", form function.RoundDown 1 2)
    ∷ (codes "ROUND", form function.Round 1 2)
    ∷ (codes "ROUNDUP", form function.RoundUp 1 2)
    ∷ (codes "MOD", form function.Mod 2 2)
    ∷ (codes "QUOTIENT", form function.Quotient 2 2)
    ∷ (codes "POWER", form function.Power 2 2)
    ∷ (codes "SQRT", form function.Sqrt 1 1)
    ∷ []

-- functions of logical values, 6.15, and of kinds of values, 6.13
abbrev pub forms_of_logic : Forms
forms_of_logic =
    (codes "AND", form function.And 1 MOST_PARAMETERS)
    ∷ (codes "OR", form function.Or 1 MOST_PARAMETERS)
    ∷ (codes "NOT", form function.Not 1 1)
    ∷ (codes "TRUE", form function.True 0 0)
    ∷ (codes "FALSE", form function.False 0 0)
    ∷ (codes "NA", form function.Na 0 0)
    ∷ (codes "IF", form function.If 2 3)
    ∷ (codes "IFERROR", form function.IfError 2 2)
    ∷ (codes "ISERROR", form function.IsError 1 1)
    ∷ (codes "ISNA", form function.IsNa 1 1)
    ∷ (codes "ISNUMBER", form function.IsNumber 1 1)
    ∷ (codes "ISTEXT", form function.IsText 1 1)
    ∷ (codes "ISBLANK", form function.IsBlank 1 1)
    ∷ []

-- functions of texts, 6.20
abbrev pub forms_of_texts : Forms
forms_of_texts =
    (codes "LEN", form function.Len 1 1)
    ∷ (codes "LEFT", form function.Left 1 2)
    ∷ (codes "RIGHT", form function.Right 1 2)
    ∷ (codes "MID", form function.Mid 3 3)
    ∷ (codes "FIND", form function.Find 2 3)
    ∷ (codes "REPT", form function.Rept 2 2)
    ∷ (codes "EXACT", form function.Exact 2 2)
    ∷ (codes "CONCATENATE", form function.Concatenate 1 MOST_PARAMETERS)
    ∷ (codes "VALUE", form function.Value 1 1)
    ∷ []

-- functions of lists, 6.16 and 6.18, and of criteria, 6.13
abbrev pub forms_of_lists : Forms
forms_of_lists =
    (codes "SUM", form function.Sum 1 MOST_PARAMETERS)
    ∷ (codes "AVERAGE", form function.Average 1 MOST_PARAMETERS)
    ∷ (codes "MIN", form function.Min 1 MOST_PARAMETERS)
    ∷ (codes "MAX", form function.Max 1 MOST_PARAMETERS)
    ∷ (codes "PRODUCT", form function.Product 1 MOST_PARAMETERS)
    ∷ (codes "COUNT", form function.Count 1 MOST_PARAMETERS)
    ∷ (codes "COUNTA", form function.CountA 1 MOST_PARAMETERS)
    ∷ (codes "COUNTBLANK", form function.CountBlank 1 1)
    ∷ (codes "COUNTIF", form function.CountIf 2 2)
    ∷ (codes "SUMIF", form function.SumIf 2 3)
    ∷ []

-- functions that look into areas, 6.14
abbrev pub forms_of_areas : Forms
forms_of_areas =
    (codes "INDEX", form function.Index 2 3)
    ∷ (codes "MATCH", form function.Match 2 3)
    ∷ (codes "VLOOKUP", form function.VLookup 3 4)
    ∷ (codes "HLOOKUP", form function.HLookup 3 4)
    ∷ (codes "CHOOSE", form function.Choose 2 MOST_PARAMETERS)
    ∷ (codes "ROW", form function.Row 0 1)
    ∷ (codes "COLUMN", form function.Column 0 1)
    ∷ (codes "ROWS", form function.Rows 1 1)
    ∷ (codes "COLUMNS", form function.Columns 1 1)
    ∷ []

-- those of a family and of all behind it
abbrev pub forms_from_lists : Forms
forms_from_lists = forms_of_lists ++ forms_of_areas

abbrev pub forms_from_texts : Forms
forms_from_texts = forms_of_texts ++ forms_from_lists

abbrev pub forms_from_logic : Forms
forms_from_logic = forms_of_logic ++ forms_from_texts

-- all of them
abbrev pub forms : Forms
forms = forms_of_numbers ++ forms_from_logic

abbrev pub named_in : Forms → List ℕ → Option Form
named_in forms name = option_map (λ entry. entry.1) (find (λ entry. bytes_eq name entry.0) forms)

-- the function of that name
abbrev pub form_named : List ℕ → Option Form
form_named = named_in forms

-- what each function gives to a formula at home
abbrev pub given : Function → Place → List Meaning → Value
given function.Abs home parameters = abs parameters
given function.Sign home parameters = sign parameters
given function.Int home parameters = int parameters
given function.Trunc home parameters = round_down parameters
given function.RoundDown home parameters = round_down parameters
given function.Round home parameters = round parameters
given function.RoundUp home parameters = round_up parameters
given function.Mod home parameters = mod_ parameters
given function.Quotient home parameters = quotient_ parameters
given function.Power home parameters = power parameters
given function.Sqrt home parameters = square_root parameters
given function.And home parameters = and parameters
given function.Or home parameters = or parameters
given function.Not home parameters = not_ parameters
given function.True home parameters = true_ parameters
given function.False home parameters = false_ parameters
given function.Na home parameters = not_available parameters
given function.If home parameters = if_ parameters
given function.IfError home parameters = if_error parameters
given function.IsError home parameters = of_kind is_error parameters
given function.IsNa home parameters = of_kind is_not_available parameters
given function.IsNumber home parameters = of_kind is_number parameters
given function.IsText home parameters = of_kind is_text parameters
given function.IsBlank home parameters = of_kind is_blank parameters
given function.Len home parameters = len parameters
given function.Left home parameters = left parameters
given function.Right home parameters = right parameters
given function.Mid home parameters = mid parameters
given function.Find home parameters = find_ parameters
given function.Rept home parameters = rept parameters
given function.Exact home parameters = exact parameters
given function.Concatenate home parameters = concatenate parameters
given function.Value home parameters = value parameters
given function.Sum home parameters = sum parameters
given function.Average home parameters = average parameters
given function.Min home parameters = min_ parameters
given function.Max home parameters = max_ parameters
given function.Product home parameters = product parameters
given function.Count home parameters = count parameters
given function.CountA home parameters = count_a parameters
given function.CountBlank home parameters = count_blank parameters
given function.CountIf home parameters = count_if parameters
given function.SumIf home parameters = sum_if parameters
given function.Index home parameters = index parameters
given function.Match home parameters = match_ parameters
given function.VLookup home parameters = look_up looked_up_down parameters
given function.HLookup home parameters = look_up looked_up_along parameters
given function.Choose home parameters = choose parameters
given function.Row home parameters = first_of (λ (p : Place). p.row) (λ (a : Rectangle). a.first_row) home parameters
given function.Column home parameters = first_of (λ (p : Place). p.col) (λ (a : Rectangle). a.first_col) home parameters
given function.Rows home parameters = size_of row_count parameters
given function.Columns home parameters = size_of col_count parameters

abbrev pub takes : Form → ℕ → Bool
takes form count = nat_le form.least count && nat_le count form.most

-- what a function gives: no value for a number of parameters that it doesn't take
abbrev pub applied : Place → List Meaning → Option Form → Value
applied home parameters None = Bad BadName
applied home parameters (Some form) =
    if takes form (length parameters) then given form.function home parameters else Bad BadValue

-- what a call of the function with that name gives to a formula at home
unfoldable pub function_value : Place → List ℕ → List Meaning → Value
function_value home name parameters = applied home parameters (form_named name)

-- The operators behind an operand, at the front of what is left.
use Rattle.std.specs.Prelude.{ℕ, ◌==◌, nat_le, List, [], ◌∷◌, Option, Some, None, if◌then◌else◌, option_map}
use Rattle.calc_model.specs.Grammar.{op_level}
use Rattle.calc_model.specs.declared.tree.Op.TheVariants.{Pow, Mul, Div, Add, Sub, Cat, Eq, Ne, Lt, Le, Gt, Ge}
use Rattle.formula_reader.specs.declared.operators.Operator.{Operator}
use Rattle.formula_reader.specs.declared.operators.Operator.TheVariants as operators
use Rattle.formula_reader.specs.Unread.{Unread, beside, taken_if}

-- the operator that is one byte and no beginning of another
abbrev pub single_operator : ℕ → Option Operator
single_operator byte =
    if byte == 37 then Some operators.Percent
    else (if byte == 94 then Some (operators.Infix Pow)
    else (if byte == 42 then Some (operators.Infix Mul)
    else (if byte == 47 then Some (operators.Infix Div)
    else (if byte == 43 then Some (operators.Infix Add)
    else (if byte == 45 then Some (operators.Infix Sub)
    else (if byte == 38 then Some (operators.Infix Cat)
    else (if byte == 61 then Some (operators.Infix Eq) else None)))))))

-- the operator that begins with `<`, by what stands behind that
abbrev pub less_at : List ℕ → Operator × List ℕ
less_at [] = (operators.Infix Lt, [])
less_at (byte ∷ rest) =
    if byte == 62 then (operators.Infix Ne, rest) else (if byte == 61 then (operators.Infix Le, rest) else (operators.Infix Lt, byte ∷ rest))

-- the operator that begins with `>`
abbrev pub greater_at : List ℕ → Operator × List ℕ
greater_at [] = (operators.Infix Gt, [])
greater_at (byte ∷ rest) = if byte == 61 then (operators.Infix Ge, rest) else (operators.Infix Gt, byte ∷ rest)

abbrev pub operator_at : List ℕ → Option (Operator × List ℕ)
operator_at [] = None
operator_at (byte ∷ rest) =
    if byte == 60 then Some (less_at rest)
    else (if byte == 62 then Some (greater_at rest) else option_map (beside rest) (single_operator byte))

-- the level of an operator
abbrev pub level_of : Operator → ℕ
level_of operators.Percent = 1
level_of (operators.Infix op) = op_level op

-- the operator, if it is found and its level is this or tighter
abbrev pub up_to : ℕ → Option (Operator × List ℕ) → Option (Operator × List ℕ)
up_to level None = None
up_to level (Some found) = if nat_le (level_of found.0) level then Some found else None

-- the operator in front is taken, if its level is this or tighter
unfoldable pub operator_taken : ℕ → Unread → Option (Option Operator × Unread)
operator_taken level unread = taken_if unread (up_to level (operator_at unread.bytes))

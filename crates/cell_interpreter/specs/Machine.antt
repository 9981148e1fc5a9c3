-- The stack machine that runs a formula's nodes in postfix order. The stack holds what the parts mean that are
-- done, its top first; a node takes its children's meanings from it.
use Rattle.std.specs.Prelude.{◌≡◌, ℕ, ◌+◌, ◌-◌, List, [], ◌∷◌, ◌++◌, length, drop, fold, map, reverse, take, nat_le, Option, Some, None, IsSome, if◌then◌else◌}
use Rattle.std.specs.Option.{option_and_then}
use Rattle.calc_addr.specs.Places.{Place}
use Rattle.calc_addr.specs.References.{here}
use Rattle.calc_model.specs.declared.value.Value.TheVariants.{Number, Words, Bad}
use Rattle.calc_model.specs.Meanings.{Meaning, meaning_of_area, scalar_alone}
use Rattle.calc_model.specs.Arguments.{meaning_of as meaning_of_arg}
use Rattle.calc_model.specs.Eval.{meaning_of_name}
use Rattle.calc_model.specs.Functions.{function_value}
use Rattle.calc_model.specs.declared.arg.Arg.{Arg}
use Rattle.calc_model.specs.Operators.{binary, hundredth, negated}
use Rattle.calc_model.specs.Reads.{Names}
use Rattle.calc_model.specs.Scalars.{CellValues}
use Rattle.formula_code.specs.declared.node.Node.{Node}
use Rattle.formula_code.specs.declared.node.Node.TheVariants as node
use Rattle.cell_interpreter.specs.declared.operand.Operand.{Operand}
use Rattle.cell_interpreter.specs.declared.operand.Operand.TheVariants as operand
use Rattle.cell_interpreter.specs.declared.scalar.Scalar.{Scalar}
use Rattle.cell_interpreter.specs.Operands.{value_of}

abbrev pub Meanings : Type 0
Meanings = List Meaning

-- what an operand means
abbrev pub meaning_of : Place → CellValues → Operand → Meaning
meaning_of home values (operand.Scalar scalar) = scalar_alone (value_of scalar)
meaning_of home values (operand.Area area) = meaning_of_area home values area

-- what operands mean that were pushed one after the other
unfoldable pub stacked : Place → CellValues → List Operand → Meanings
stacked home values operands = fold (λ meanings operand. meaning_of home values operand ∷ meanings) [] operands

module _ (home : Place) (names : Names) (values : CellValues) where
  -- the stack after a node; none where its children aren't there
  abbrev pub acted : Node → Meanings → Option Meanings
  acted (node.Number n) stack = Some (scalar_alone (Number n) ∷ stack)
  acted (node.Words text) stack = Some (scalar_alone (Words text) ∷ stack)
  acted (node.Bad fault) stack = Some (scalar_alone (Bad fault) ∷ stack)
  acted (node.Ref reference) stack = Some (meaning_of_area home values (here reference home) ∷ stack)
  acted (node.Name name) stack = Some (meaning_of_name home names values (names name) ∷ stack)
  acted (node.Call name args) stack =
      if nat_le args (length stack) then Some (scalar_alone (function_value home name (reverse (take args stack))) ∷ drop args stack) else None
  acted node.Paren (child ∷ stack) = Some (child ∷ stack)
  acted node.Plus (child ∷ stack) = Some (scalar_alone child.scalar ∷ stack)
  acted node.Minus (child ∷ stack) = Some (scalar_alone (negated child.scalar) ∷ stack)
  acted node.Percent (child ∷ stack) = Some (scalar_alone (hundredth child.scalar) ∷ stack)
  acted (node.Binary op) (right ∷ left ∷ stack) = Some (scalar_alone (binary op left.scalar right.scalar) ∷ stack)
  acted _ _ = None

  -- the stack after these nodes
  unfoldable pub run : List Node → Meanings → Option Meanings
  run [] stack = Some stack
  run (node ∷ nodes) stack = option_and_then (run nodes) (acted node stack)

-- the top of the stack was taken, and this is its value in a place that takes one
pub record Pops (home : Place) (values : CellValues) (old new : List Operand) (scalar : Scalar) : Type 0 where
  pub meaning : Meaning
  pub taken : stacked home values old ≡ meaning ∷ stacked home values new
  pub shorter : length new + 1 ≡ length old
  pub value : value_of scalar ≡ meaning.scalar

-- the operand is passed to a function as this parameter
abbrev pub IsPassedAs : Operand → Arg → Type 0
IsPassedAs operand arg = (home : Place) (values : CellValues) → meaning_of_arg home values arg ≡ meaning_of home values operand

-- so many operands were taken from the top, and these are the parameters that they are, from left to right
abbrev pub TakesArgs : ℕ → List Operand → List Operand → List Arg → Type 0
TakesArgs count old new args =
    (new ≡ take (length old - count) old) × ((home : Place) (values : CellValues) → map (meaning_of_arg home values) args ≡ reverse (take count (stacked home values old)))

-- a call of so many parameters put its value in their place
pub record Calls (home : Place) (values : CellValues) (name : List ℕ) (count : ℕ) (old new : List Operand) : Type 0 where
  pub scalar : Scalar
  pub value : value_of scalar ≡ function_value home name (reverse (take count (stacked home values old)))
  pub put : new ≡ take (length old - count) old ++ operand.Scalar scalar ∷ []

-- the node finds its children on the stack
abbrev pub CanAct : Place → Names → CellValues → Node → List Operand → Type 0
CanAct home names values node operands = IsSome (acted home names values node (stacked home values operands))

-- these operands are the stack after the node
abbrev pub Acts : Place → Names → CellValues → Node → List Operand → List Operand → Type 0
Acts home names values node old new = acted home names values node (stacked home values old) ≡ Some (stacked home values new)

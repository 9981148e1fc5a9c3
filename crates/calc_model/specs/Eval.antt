-- What a formula gives over the values of a book, after OpenFormula's evaluation of expressions.
use Rattle.std.specs.Prelude.{pos}
use Rattle.calc_addr.specs.Places.{Place}
use Rattle.calc_addr.specs.References.{here}
use Rattle.calc_model.specs.declared.fault.Fault.TheVariants.{BadRef, BadName}
use Rattle.calc_model.specs.declared.value.Value.{Value}
use Rattle.calc_model.specs.declared.value.Value.TheVariants.{Number, Words, Bad, Blank}
use Rattle.calc_model.specs.declared.looked.Looked.{Looked}
use Rattle.calc_model.specs.declared.looked.Looked.TheVariants.{Absent, Gone, At}
use Rattle.calc_model.specs.declared.tree.Tree.{Tree}
use Rattle.calc_model.specs.declared.tree.Tree.TheOpen.{Tree-F}
use Rattle.calc_model.specs.declared.tree.Tree.TheFolds.{fold-Tree}
use Rattle.calc_model.specs.Functions.{function_value}
use Rattle.calc_model.specs.Meanings.{Meaning, meaning_of_area, scalar_alone}
use Rattle.calc_model.specs.Operators.{binary, hundredth, negated}
use Rattle.calc_model.specs.Reads.{Names}
use Rattle.calc_model.specs.Scalars.{CellValues}

module _ (home : Place) (names : Names) (values : CellValues) where
  abbrev pub meaning_of_name : Looked → Meaning
  meaning_of_name Absent = scalar_alone (Bad BadName)
  meaning_of_name Gone = scalar_alone (Bad BadRef)
  meaning_of_name (At area) = meaning_of_area home values area

  -- the meaning of a node, from those of its children
  abbrev pub meaning_step : Tree-F Meaning → Meaning
  meaning_step (Tree-F.Number n) = scalar_alone (Number n)
  meaning_step (Tree-F.Words text) = scalar_alone (Words text)
  meaning_step (Tree-F.Bad fault) = scalar_alone (Bad fault)
  meaning_step (Tree-F.Ref reference) = meaning_of_area home values (here reference home)
  meaning_step (Tree-F.Name name) = meaning_of_name (names name)
  meaning_step (Tree-F.Paren child) = child
  meaning_step (Tree-F.Plus child) = scalar_alone child.scalar
  meaning_step (Tree-F.Minus child) = scalar_alone (negated child.scalar)
  meaning_step (Tree-F.Percent child) = scalar_alone (hundredth child.scalar)
  meaning_step (Tree-F.Binary op left right) = scalar_alone (binary op left.scalar right.scalar)
  meaning_step (Tree-F.Call name args) = scalar_alone (function_value home name args)

  abbrev pub meaning : Tree → Meaning
  meaning = fold-Tree Meaning meaning_step

-- the value of a formula at home
abbrev pub eval : Place → Names → CellValues → Tree → Value
eval home names values tree = (meaning home names values tree).scalar

-- A formula whose result is blank shows 0.
abbrev pub top : Value → Value
top Blank = Number (pos 0)
top value = value

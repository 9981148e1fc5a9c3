-- Which formulas use a name: those with a node of that name, whatever the case of its ASCII letters. The name of a
-- call is none.
use Rattle.std.specs.Prelude.{◌≡◌, ℕ, List, Any}
use Rattle.std.specs.Str.{str_to_ascii_uppercase}
use Rattle.calc_model.specs.declared.tree.Tree.{Tree}
use Rattle.formula_code.specs.declared.node.Node.{Node}
use Rattle.formula_code.specs.declared.node.Node.TheVariants.{Name}
use Rattle.formula_code.specs.Nodes.{postfix}

abbrev pub IsNamed : List ℕ → Node → Type 0
IsNamed name (Name other) = str_to_ascii_uppercase other ≡ str_to_ascii_uppercase name
IsNamed name _ = ⊥

abbrev pub UsesName : Tree → List ℕ → Type 0
UsesName tree name = Any (IsNamed name) (postfix tree)

-- Nodes in postfix order, and what the formula is whose nodes they are.
use Rattle.std.specs.Prelude.{◌≡◌, List}
use Rattle.calc_addr.specs.Places.{Place}
use Rattle.calc_model.specs.declared.tree.Tree.{Tree}
use Rattle.calc_model.specs.declared.value.Value.{Value}
use Rattle.calc_model.specs.Eval.{eval}
use Rattle.calc_model.specs.Reads.{Names}
use Rattle.calc_model.specs.Scalars.{CellValues}
use Rattle.formula_code.specs.declared.node.Node.{Node}
use Rattle.formula_code.specs.Nodes.{postfix}

-- the nodes are those of a tree
abbrev pub AreOfTree : List Node → Type 0
AreOfTree nodes = (tree : Tree) × (nodes ≡ postfix tree)

-- the value is that of the formula whose nodes they are
abbrev pub IsEvaluated : Place → Names → CellValues → List Node → Value → Type 0
IsEvaluated home names values nodes value = (tree : Tree) → nodes ≡ postfix tree → value ≡ eval home names values tree

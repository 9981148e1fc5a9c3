-- The nodes of a tree's relative form, and the trees that nodes in postfix order build.
use Rattle.std.specs.Prelude.{◌≡◌, nat_le, List, [], ◌∷◌, length, take, drop, reverse, Option, Some, None, option_and_then, if◌then◌else◌}
use Rattle.calc_addr.specs.Places.{Place}
use Rattle.calc_addr.specs.References.{Reference}
use Rattle.calc_model.specs.declared.fault.Fault.TheVariants.{Syntax}
use Rattle.calc_model.specs.declared.tree.Tree.{Tree}
use Rattle.calc_model.specs.declared.tree.Tree.TheOpen.{Tree-F}
use Rattle.calc_model.specs.declared.tree.Tree.TheFolds.{fold-Tree}
use Rattle.calc_model.specs.declared.tree.Tree.TheVariants as t
use Rattle.formula_code.specs.declared.node.Node.{Node}
use Rattle.formula_code.specs.declared.node.Node.TheVariants.{Number, Words, Bad, Ref, Name, Call, Paren, Plus, Minus, Percent, Binary}
use Rattle.formula_code.specs.Nodes.{postfix_step}
use Rattle.formula_code.specs.Relative.{relative_reference}

-- the nodes of a node's relative form, from those of its children
abbrev pub relative_step : Place → Tree-F (List Node) → List Node
relative_step home (Tree-F.Ref reference) = Ref (relative_reference home reference) ∷ []
relative_step home node = postfix_step node

abbrev pub relative_nodes : Place → Tree → List Node
relative_nodes home = fold-Tree (List Node) (relative_step home)

module _ (by : Reference → Tree) where
  -- The stack of trees, its top first, after a node took its children from it; none where they aren't there.
  abbrev pub built_on : Node → List Tree → Option (List Tree)
  built_on (Number n) trees = Some (t.Number n ∷ trees)
  built_on (Words text) trees = Some (t.Words text ∷ trees)
  built_on (Bad fault) trees = Some (t.Bad fault ∷ trees)
  built_on (Ref reference) trees = Some (by reference ∷ trees)
  built_on (Name name) trees = Some (t.Name name ∷ trees)
  built_on (Call name args) trees = if nat_le args (length trees) then Some (t.Call name (reverse (take args trees)) ∷ drop args trees) else None
  built_on Paren (child ∷ trees) = Some (t.Paren child ∷ trees)
  built_on Plus (child ∷ trees) = Some (t.Plus child ∷ trees)
  built_on Minus (child ∷ trees) = Some (t.Minus child ∷ trees)
  built_on Percent (child ∷ trees) = Some (t.Percent child ∷ trees)
  built_on (Binary op) (right ∷ left ∷ trees) = Some (t.Binary op left right ∷ trees)
  built_on _ _ = None

  -- the stack after all the nodes, with another tree in place of each reference
  unfoldable pub built : List Node → List Tree → Option (List Tree)
  built [] trees = Some trees
  built (node ∷ nodes) trees = option_and_then (built nodes) (built_on node trees)

-- the nodes build one tree
abbrev pub Builds : (Reference → Tree) → List Node → Tree → Type 0
Builds by nodes tree = built by nodes [] ≡ Some (tree ∷ [])

-- the top of a stack
abbrev pub top_of : Option (List Tree) → Tree
top_of (Some (tree ∷ trees)) = tree
top_of _ = t.Bad Syntax

-- the tree whose nodes these are
unfoldable pub tree_of : List Node → Tree
tree_of nodes = top_of (built t.Ref nodes [])

-- The nodes of a tree in postfix order: each directly after its children's lists, from left to right.
use Rattle.std.specs.Prelude.{List, [], ◌∷◌, ◌++◌, length}
use Rattle.std.specs.List.{flat_map}
use Rattle.calc_model.specs.declared.tree.Tree.{Tree}
use Rattle.calc_model.specs.declared.tree.Tree.TheOpen.{Tree-F}
use Rattle.calc_model.specs.declared.tree.Tree.TheFolds.{fold-Tree}
use Rattle.formula_code.specs.declared.node.Node.{Node}
use Rattle.formula_code.specs.declared.node.Node.TheVariants as node

-- the nodes of a node's subtree, from those of its children
abbrev pub postfix_step : Tree-F (List Node) → List Node
postfix_step (Tree-F.Number n) = node.Number n ∷ []
postfix_step (Tree-F.Words text) = node.Words text ∷ []
postfix_step (Tree-F.Bad fault) = node.Bad fault ∷ []
postfix_step (Tree-F.Ref reference) = node.Ref reference ∷ []
postfix_step (Tree-F.Name name) = node.Name name ∷ []
postfix_step (Tree-F.Call name args) = flat_map (λ nodes. nodes) args ++ node.Call name (length args) ∷ []
postfix_step (Tree-F.Paren child) = child ++ node.Paren ∷ []
postfix_step (Tree-F.Plus child) = child ++ node.Plus ∷ []
postfix_step (Tree-F.Minus child) = child ++ node.Minus ∷ []
postfix_step (Tree-F.Percent child) = child ++ node.Percent ∷ []
postfix_step (Tree-F.Binary op left right) = left ++ right ++ node.Binary op ∷ []

unfoldable pub postfix : Tree → List Node
postfix = fold-Tree (List Node) postfix_step

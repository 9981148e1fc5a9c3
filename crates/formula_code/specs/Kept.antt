-- What is kept of a code: the nodes of its form in postfix order, and its digest.
use Rattle.std.specs.Prelude.{◌≡◌, ℕ, true, List}
use Rattle.calc_model.specs.declared.fault.Fault.TheVariants.{BadRef}
use Rattle.calc_model.specs.declared.tree.Tree.{Tree}
use Rattle.calc_model.specs.declared.tree.Tree.TheVariants.{Bad}
use Rattle.calc_model.specs.Formed.{is_formed}
use Rattle.calc_model.specs.TreeShifts.{replaced}
use Rattle.formula_code.specs.declared.node.Node.{Node}
use Rattle.formula_code.specs.Building.{tree_of}
use Rattle.formula_code.specs.Digests.{form_digest}
use Rattle.formula_code.specs.Nodes.{postfix}

-- the tree with each reference deleted
abbrev pub without_references : Tree → Tree
without_references = replaced (λ r. Bad BadRef)

-- Wherever its references lie, the form is one of a formula.
abbrev pub IsForm : Tree → Type 0
IsForm form = is_formed (without_references form) ≡ true

pub record IsKept (nodes : List Node) (digest : ℕ) : Type 0 where
  pub listed : postfix (tree_of nodes) ≡ nodes
  pub formed : IsForm (tree_of nodes)
  pub digested : digest ≡ form_digest (tree_of nodes)

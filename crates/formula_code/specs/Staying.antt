-- Where the nodes of a form stay as they are under a change of references.
use Rattle.std.specs.Prelude.{◌≡◌}
use Rattle.calc_addr.specs.Places.{Place}
use Rattle.calc_addr.specs.References.{Reference}
use Rattle.calc_model.specs.declared.tree.Tree.{Tree}
use Rattle.calc_model.specs.declared.tree.Tree.TheVariants as t
use Rattle.calc_model.specs.declared.change.Change.{Change}
use Rattle.formula_code.specs.declared.node.Node.{Node}
use Rattle.formula_code.specs.declared.node.Node.TheVariants.{Ref}
use Rattle.calc_model.specs.Changes.{changed}
use Rattle.formula_code.specs.Relative.{absolute_reference, relative}

-- a node whose reference stays where references are replaced
abbrev pub StaysBy : (Reference → Tree) → Node → Type 0
StaysBy by (Ref r) = by r ≡ t.Ref r
StaysBy by _ = Unit {0}

-- what becomes of a form's reference when the formula changes at home and goes to another cell
abbrev pub form_after : Change → Place → Place → Reference → Tree
form_after change home to r = relative to (changed change home (absolute_reference home r))

abbrev pub StaysAfter : Change → Place → Place → Node → Type 0
StaysAfter change home to = StaysBy (form_after change home to)

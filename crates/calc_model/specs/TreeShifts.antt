-- What becomes of a formula when it moves, and when rows of a sheet are inserted or deleted: each reference goes as
-- references do, and one that is deleted becomes the error node `#REF!`. Names and all other nodes stay.
use Rattle.std.specs.Prelude.{ℕ, ℤ, ◌==◌, if◌then◌else◌, Option, Some, None}
use Rattle.calc_addr.specs.Places.{Place}
use Rattle.calc_addr.specs.References.{Reference, here}
use Rattle.calc_addr.specs.Moves.{moved_reference}
use Rattle.calc_addr.specs.Shifts.{reference_after_deletion, reference_after_insertion}
use Rattle.calc_model.specs.declared.fault.Fault.TheVariants.{BadRef}
use Rattle.calc_model.specs.declared.tree.Tree.{Tree}
use Rattle.calc_model.specs.declared.tree.Tree.TheOpen.{Tree-F}
use Rattle.calc_model.specs.declared.tree.Tree.TheFolds.{fold-Tree}
use Rattle.calc_model.specs.declared.tree.Tree.TheVariants.{Number, Words, Bad, Ref, Name, Call, Paren, Plus, Minus, Percent, Binary}

-- the node of a reference, or of a deleted one
abbrev pub or_deleted : Option Reference → Tree
or_deleted (Some reference) = Ref reference
or_deleted None = Bad BadRef

-- the node as it is, but for a reference
abbrev pub replace_step : (Reference → Tree) → Tree-F Tree → Tree
replace_step by (Tree-F.Number n) = Number n
replace_step by (Tree-F.Words text) = Words text
replace_step by (Tree-F.Bad fault) = Bad fault
replace_step by (Tree-F.Ref reference) = by reference
replace_step by (Tree-F.Name name) = Name name
replace_step by (Tree-F.Call name args) = Call name args
replace_step by (Tree-F.Paren child) = Paren child
replace_step by (Tree-F.Plus child) = Plus child
replace_step by (Tree-F.Minus child) = Minus child
replace_step by (Tree-F.Percent child) = Percent child
replace_step by (Tree-F.Binary op left right) = Binary op left right

-- the tree with each reference replaced
unfoldable pub replaced : (Reference → Tree) → Tree → Tree
replaced by = fold-Tree Tree (replace_step by)

-- the tree of a formula that moves by so many columns and rows
abbrev pub moved_tree : ℤ → ℤ → Tree → Tree
moved_tree cols rows = replaced (λ r. or_deleted (moved_reference cols rows r))

-- what becomes of a reference of the formula at home where only those to one sheet change
abbrev pub on_sheet : Place → ℕ → (Reference → Option Reference) → Reference → Tree
on_sheet home sheet change r = if (here r home).sheet == sheet then or_deleted (change r) else Ref r

-- the tree of the formula at home, taken before the edit, when so many rows of a sheet are inserted at the place
abbrev pub tree_after_insertion : Place → ℕ → ℕ → ℕ → Tree → Tree
tree_after_insertion home sheet place count = replaced (on_sheet home sheet (reference_after_insertion place count))

-- the same when so many rows from the place on are deleted
abbrev pub tree_after_deletion : Place → ℕ → ℕ → ℕ → Tree → Tree
tree_after_deletion home sheet place count = replaced (on_sheet home sheet (reference_after_deletion place count))

-- The nodes of a tree as they are lent, with absolute references.
use Rattle.std.specs.Prelude.{nat_le, ◌&&◌, Bool, true, List, map}
use Rattle.std.specs.List.{list_all}
use Rattle.calc_addr.specs.Places.{Place}
use Rattle.calc_addr.specs.References.{Reference}
use Rattle.calc_addr.specs.ValidReferences.{is_valid_reference}
use Rattle.calc_model.specs.declared.limits.TheConstants.{MOST_PARAMETERS}
use Rattle.formula_code.specs.Relative.{absolute_reference}
use Rattle.formula_code.specs.declared.node.Node.{Node}
use Rattle.formula_code.specs.declared.node.Node.TheVariants.{Number, Words, Bad, Ref, Name, Call, Paren, Plus, Minus, Percent, Binary}

-- the node with its reference changed
abbrev pub node_with : (Reference → Reference) → Node → Node
node_with change (Ref reference) = Ref (change reference)
node_with change (Number n) = Number n
node_with change (Words text) = Words text
node_with change (Bad fault) = Bad fault
node_with change (Name name) = Name name
node_with change (Call name args) = Call name args
node_with change Paren = Paren
node_with change Plus = Plus
node_with change Minus = Minus
node_with change Percent = Percent
node_with change (Binary op) = Binary op

-- the node with its reference's distances taken from home
abbrev pub absolute_node : Place → Node → Node
absolute_node home = node_with (absolute_reference home)

abbrev pub nodes_at : Place → List Node → List Node
nodes_at home nodes = map (absolute_node home) nodes

-- a reference lies in the sheet, with its ends in order
abbrev pub is_valid_node : Node → Bool
is_valid_node (Ref reference) = is_valid_reference reference
is_valid_node _ = true

-- a call has no more parameters than a formula's call may have
abbrev pub is_short_node : Node → Bool
is_short_node (Call name args) = nat_le args MOST_PARAMETERS
is_short_node _ = true

-- a node that a formula can have
abbrev pub is_token : Node → Bool
is_token node = is_valid_node node && is_short_node node

abbrev pub are_tokens : List Node → Bool
are_tokens nodes = list_all is_token nodes

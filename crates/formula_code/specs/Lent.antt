-- The node that a token lends.
use Rattle.formula_code.specs.declared.node.Node.{Node}
use Rattle.formula_code.specs.declared.node.Node.TheVariants as node
use Rattle.formula_code.specs.declared.token.Token.{Token}
use Rattle.formula_code.specs.declared.token.Token.TheVariants.{Number, Words, Bad, Ref, Name, Call, Paren, Plus, Minus, Percent, Binary}

abbrev pub lent : Token → Node
lent (Number n) = node.Number n
lent (Words text) = node.Words text.now
lent (Bad fault) = node.Bad fault
lent (Ref reference) = node.Ref reference
lent (Name name) = node.Name name.now
lent (Call name args) = node.Call name.now args
lent Paren = node.Paren
lent Plus = node.Plus
lent Minus = node.Minus
lent Percent = node.Percent
lent (Binary op) = node.Binary op

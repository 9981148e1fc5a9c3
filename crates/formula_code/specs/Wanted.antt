-- The node that is looked for.
use Rattle.formula_code.specs.declared.node.Node.{Node}
use Rattle.formula_code.specs.declared.node.Node.TheVariants as node
use Rattle.formula_code.specs.declared.matching.Wanted.{Wanted}
use Rattle.formula_code.specs.declared.matching.Wanted.TheVariants.{Number, Words, Bad, Ref, Name, Call, Paren, Plus, Minus, Percent, Binary}

abbrev pub kept : Wanted → Node
kept (Number n) = node.Number n
kept (Words text) = node.Words text.now
kept (Bad fault) = node.Bad fault
kept (Ref reference) = node.Ref reference
kept (Name name) = node.Name name.now
kept (Call name args) = node.Call name.now args
kept Paren = node.Paren
kept Plus = node.Plus
kept Minus = node.Minus
kept Percent = node.Percent
kept (Binary op) = node.Binary op

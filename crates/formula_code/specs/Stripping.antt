-- What is left of a list of nodes behind those of a form.
use Rattle.std.specs.Prelude.{◌≡◌, ◌≢◌, List, ◌++◌, Option, Some, None}
use Rattle.formula_code.specs.declared.node.Node.{Node}

-- the list is the form's and then the rest, or doesn't begin with the form's
abbrev pub Strips : List Node → List Node → Option (List Node) → Type 0
Strips form nodes (Some rest) = nodes ≡ form ++ rest
Strips form nodes None = (rest : List Node) → nodes ≢ form ++ rest

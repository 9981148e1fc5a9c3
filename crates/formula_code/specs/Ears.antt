-- What the formulas of a run with one relative form read, by the formula at home: the areas of its references and
-- names in order of writing, and which of their ends go with the row.
use Rattle.std.specs.Prelude.{◌&&◌, not, false, List, [], ◌∷◌}
use Rattle.std.specs.List.{flat_map}
use Rattle.calc_addr.specs.Places.{Place}
use Rattle.calc_addr.specs.References.{Reference, here}
use Rattle.calc_model.specs.declared.looked.Looked.{Looked}
use Rattle.calc_model.specs.declared.looked.Looked.TheVariants.{At}
use Rattle.calc_model.specs.declared.tree.Tree.{Tree}
use Rattle.calc_model.specs.Books.{NameEntries, entry_named}
use Rattle.calc_model.specs.Ears.{ReadArea}
use Rattle.formula_code.specs.declared.node.Node.{Node}
use Rattle.formula_code.specs.declared.node.Node.TheVariants.{Name, Ref}
use Rattle.formula_code.specs.Nodes.{postfix}
use Rattle.formula_code.specs.Relative.{has_rows}

-- the ends of a reference without marks go with the row, where its rows are coordinates
abbrev pub ear_of : Place → Reference → ReadArea
ear_of home r = record {
  area = here r home;
  first_moves = has_rows r.span && not r.marks.first_row;
  last_moves = has_rows r.span && not r.marks.last_row;
}

-- a name's area stays
abbrev pub named_ears : Looked → List ReadArea
named_ears (At area) = record { area = area; first_moves = false; last_moves = false } ∷ []
named_ears _ = []

abbrev pub node_ears : Place → NameEntries → Node → List ReadArea
node_ears home names (Ref r) = ear_of home r ∷ []
node_ears home names (Name name) = named_ears (entry_named names name)
node_ears home names _ = []

unfoldable pub ears_of : Place → NameEntries → List Node → List ReadArea
ears_of home names nodes = flat_map (node_ears home names) nodes

-- the ears of the formula with that tree at home
abbrev pub ears : Place → NameEntries → Tree → List ReadArea
ears home names tree = ears_of home names (postfix tree)

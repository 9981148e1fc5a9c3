-- The relative form of a form's tree at a cell is the form, where its references are valid there.
use Rattle.std.proofs.Common.{◌≡◌, ℕ, ◌≤◌, Bool, true, false, ◌&&◌, not, List, [], ◌∷◌, refl, ap, ◌∙◌, arith}
use Rattle.std.specs.List.{AllByRecursion, list_all}
use Rattle.std.proofs.lemmas.Bool.{and_parts}
use Rattle.calc_addr.specs.Places.{Place}
use Rattle.calc_addr.specs.References.{Reference, IsValidReference}
use Rattle.calc_addr.specs.ValidReferences.{is_valid_reference}
use Rattle.calc_addr.proofs.References.Tests.{tested-valid}
use Rattle.calc_model.specs.declared.tree.Tree.{Tree}
use Rattle.calc_model.specs.declared.tree.Tree.TheVariants as t
use Rattle.calc_model.proofs.Replaced.{replaced_twice}
use Rattle.formula_code.specs.declared.node.Node.{Node}
use Rattle.formula_code.specs.declared.node.Node.TheVariants.{Number, Words, Bad, Ref, Name, Call, Paren, Plus, Minus, Percent, Binary}
use Rattle.formula_code.specs.Codes.{has_valid_references}
use Rattle.formula_code.specs.Nodes.{postfix}
use Rattle.formula_code.specs.Relative.{absolute, absolute_reference, from_distance, has_cols, has_rows, relative, relative_reference, to_distance}
use Rattle.formula_code.specs.Staying.{StaysBy}
use Rattle.formula_code.specs.Tokens.{absolute_node, is_valid_node, nodes_at}
use Rattle.formula_code.proofs.Forms.{nodes_of_tree}
use Rattle.formula_code.proofs.StayingForms.{stays}

-- a coordinate in the sheet lies at its distance
again : (moves : Bool) (last home distance : ℕ) → 1 ≤ from_distance moves last home distance → to_distance moves last home (from_distance moves last home distance) ≡ distance
again true last home distance h = omega (arith, h)
again false last home distance h = refl

reference_again : (home : Place) (r : Reference) → IsValidReference (absolute_reference home r) → relative_reference home (absolute_reference home r) ≡ r
reference_again home r valid =
    let first_col = again (has_cols r.span && not r.marks.first_col) 1024 home.col r.area.first_col valid.lies.cols_from in
    let last_col = again (has_cols r.span && not r.marks.last_col) 1024 home.col r.area.last_col (omega (arith, valid.lies.cols_from, valid.lies.cols_in_order)) in
    let first_row = again (has_rows r.span && not r.marks.first_row) 1048576 home.row r.area.first_row valid.lies.rows_from in
    let last_row = again (has_rows r.span && not r.marks.last_row) 1048576 home.row r.area.last_row (omega (arith, valid.lies.rows_from, valid.lies.rows_in_order)) in
    rw (first_col, last_col, first_row, last_row)

module _ (home : Place) where
  abbrev by : Reference → Tree
  by r = t.Ref (relative_reference home (absolute_reference home r))

  node_stays : (node : Node) → is_valid_node (absolute_node home node) ≡ true → StaysBy by node
  node_stays (Ref r) valid = ap t.Ref (reference_again home r (tested-valid (absolute_reference home r) valid))
  node_stays (Number n) valid = tt
  node_stays (Words text) valid = tt
  node_stays (Bad fault) valid = tt
  node_stays (Name name) valid = tt
  node_stays (Call name args) valid = tt
  node_stays Paren valid = tt
  node_stays Plus valid = tt
  node_stays Minus valid = tt
  node_stays Percent valid = tt
  node_stays (Binary op) valid = tt

  all_stay : (nodes : List Node) → list_all is_valid_node (nodes_at home nodes) ≡ true → AllByRecursion (StaysBy by) nodes
  all_stay [] valid = tt
  all_stay (node ∷ nodes) valid =
      let parts = and_parts (is_valid_node (absolute_node home node)) (list_all is_valid_node (nodes_at home nodes)) valid in
      (node_stays node parts.0, all_stay nodes parts.1)

  pub form_back : (form : Tree) → has_valid_references (absolute home form) ≡ true → relative home (absolute home form) ≡ form
  form_back form valid =
      replaced_twice (absolute_reference home) (λ r. t.Ref (relative_reference home r)) form
      ∙ stays by form (all_stay (postfix form) (ap (list_all is_valid_node) (nodes_of_tree home form) ∙ valid))

-- The ears of a run's first formula lie in the sheet for all rows of the run, where the code is one in the first and in
-- the last of them.
use Rattle.std.proofs.Common.{◌≡◌, ◌≤◌, ℕ, Bool, true, false, cond, List, [], ◌∷◌, ◌++◌, map, sym, ap, subst, ◌∙◌}
use Rattle.std.specs.List.{All, list_all}
use Rattle.std.proofs.lemmas.Bool.{and_parts}
use Rattle.std.proofs.lemmas.List.Elements.{All-cons, All-head, All-nil, All-tail}
use Rattle.calc_addr.specs.declared.cell.TheConstants.{LAST_SHEET}
use Rattle.calc_addr.specs.Places.{IsRectangle, Place, Rectangle}
use Rattle.calc_addr.proofs.References.Tests.{tested-valid}
use Rattle.calc_model.specs.declared.looked.Looked.{Looked}
use Rattle.calc_model.specs.declared.looked.Looked.TheVariants.{Absent, Gone, At}
use Rattle.calc_model.specs.Books.{NameEntries, entry_named}
use Rattle.calc_model.specs.Ears.{ReadArea, area_at}
use Rattle.formula_code.specs.declared.node.Node.{Node}
use Rattle.formula_code.specs.declared.node.Node.TheVariants.{Number, Words, Bad, Ref, Name, Call, Paren, Plus, Minus, Percent, Binary}
use Rattle.formula_code.specs.Codes.{Codes, IsCodeAt, form_at, tree_at}
use Rattle.formula_code.specs.Ears.{ear_of, ears, ears_of, named_ears, node_ears}
use Rattle.formula_code.specs.Homes.{rows_below}
use Rattle.formula_code.specs.Nodes.{postfix}
use Rattle.formula_code.specs.Relative.{absolute_reference}
use Rattle.formula_code.specs.Tokens.{absolute_node, is_valid_node}
use Rattle.formula_code.proofs.Forms.{nodes_of_tree}
use Rattle.formula_code.proofs.RunReads.{reference_reads}
use Rattle.ears.specs.RunAreas.{LieInSheet}

on_sheet : (written : Bool) (a : Rectangle) (sheet : ℕ) → IsRectangle a → sheet ≤ LAST_SHEET → IsRectangle (cond written a (record a { sheet = sheet }))
on_sheet true a sheet h low = h
on_sheet false a sheet h low = record {
  sheet_in = low;
  cols_from = h.cols_from;
  cols_in_order = h.cols_in_order;
  cols_to = h.cols_to;
  rows_from = h.rows_from;
  rows_in_order = h.rows_in_order;
  rows_to = h.rows_to;
}

module _ (home : Place) (steps : ℕ) (names : NameEntries) (sheet_in : home.sheet ≤ LAST_SHEET) where
  -- ears lie in the sheet for all rows where they do for the first one
  abbrev Lie : List ReadArea → Type 0
  Lie es = All (λ e. IsRectangle e.area) es → All (LieInSheet steps) es

  one_more : (e : ReadArea) (es : List ReadArea) → (IsRectangle e.area → IsRectangle (area_at e steps)) → Lie es → Lie (e ∷ es)
  one_more e es low lie h =
      let first : IsRectangle e.area = All-head (λ x. IsRectangle x.area) e es h in
      All-cons (LieInSheet steps) e es (record { first = first; last = low first }) (lie (All-tail (λ x. IsRectangle x.area) e es h))

  named_lie : (looked : Looked) (es : List ReadArea) → Lie es → Lie (named_ears looked ++ es)
  named_lie Absent es lie = lie
  named_lie Gone es lie = lie
  named_lie (At area) es lie = one_more (record { area = area; first_moves = false; last_moves = false }) es (λ h. h) lie

  node_lies : (node : Node) (es : List ReadArea) → is_valid_node (absolute_node home node) ≡ true → is_valid_node (absolute_node (rows_below home steps) node) ≡ true → Lie es → Lie (node_ears home names (absolute_node home node) ++ es)
  node_lies (Ref r) es valid below lie =
      one_more (ear_of home (absolute_reference home r)) es
      (λ _. subst IsRectangle (sym (reference_reads home steps r valid))
      (on_sheet r.marks.sheet (absolute_reference (rows_below home steps) r).area home.sheet (tested-valid (absolute_reference (rows_below home steps) r) below).lies sheet_in))
      lie
  node_lies (Name name) es valid below lie = named_lie (entry_named names name) es lie
  node_lies (Number n) es valid below lie = lie
  node_lies (Words text) es valid below lie = lie
  node_lies (Bad fault) es valid below lie = lie
  node_lies (Call name args) es valid below lie = lie
  node_lies Paren es valid below lie = lie
  node_lies Plus es valid below lie = lie
  node_lies Minus es valid below lie = lie
  node_lies Percent es valid below lie = lie
  node_lies (Binary op) es valid below lie = lie

  nodes_lie : (nodes : List Node) → list_all is_valid_node (map (absolute_node home) nodes) ≡ true → list_all is_valid_node (map (absolute_node (rows_below home steps)) nodes) ≡ true → Lie (ears_of home names (map (absolute_node home) nodes))
  unfolding ears_of
  nodes_lie [] valid below = λ h. All-nil (LieInSheet steps)
  nodes_lie (node ∷ nodes) valid below =
      let here = and_parts (is_valid_node (absolute_node home node)) (list_all is_valid_node (map (absolute_node home) nodes)) valid in
      let there = and_parts (is_valid_node (absolute_node (rows_below home steps) node)) (list_all is_valid_node (map (absolute_node (rows_below home steps)) nodes)) below in
      node_lies node (ears_of home names (map (absolute_node home) nodes)) here.0 there.0 (nodes_lie nodes here.1 there.1)

  pub ears_lie : (codes : Codes) (id : ℕ) (es : List ReadArea) → IsCodeAt codes id home → IsCodeAt codes id (rows_below home steps) → es ≡ ears home names (tree_at codes id home) → All (λ e. IsRectangle e.area) es → All (LieInSheet steps) es
  ears_lie codes id es at below are =
      let form = form_at codes id in
      subst Lie (ap (ears_of home names) (nodes_of_tree home form) ∙ sym are)
      (nodes_lie (postfix form)
      (ap (list_all is_valid_node) (nodes_of_tree home form) ∙ at.valid)
      (ap (list_all is_valid_node) (nodes_of_tree (rows_below home steps) form) ∙ below.valid))

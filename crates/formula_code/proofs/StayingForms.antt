-- A form whose nodes all stay stays, and one whose references are valid at a cell is that of its tree there.
use Rattle.std.proofs.Common.{◌≡◌, ◌≤◌, ◌&&◌, ℕ, Bool, true, false, not, List, [], ◌∷◌, ◌++◌, map, ap, ◌∙◌, refl, subst, sym, arith}
use Rattle.std.specs.List.{AllByRecursion, flat_map, list_all}
use Rattle.std.proofs.lemmas.Bool.{and_parts}
use Rattle.calc_addr.proofs.References.Tests.{tested-valid}
use Rattle.calc_addr.specs.Places.{IsRectangle}
use Rattle.calc_addr.specs.Places.{Place}
use Rattle.calc_addr.specs.References.{Reference}
use Rattle.calc_model.specs.declared.tree.Tree.{Tree}
use Rattle.calc_model.specs.declared.tree.Tree.TheVariants as t
use Rattle.calc_model.specs.TreeShifts.{replaced}
use Rattle.calc_model.proofs.TreeInduction.{tree_ind}
use Rattle.calc_model.specs.declared.change.Change.{Change}
use Rattle.formula_code.specs.declared.node.Node.{Node}
use Rattle.formula_code.specs.declared.node.Node.TheVariants.{Number, Words, Bad, Ref, Name, Call, Paren, Plus, Minus, Percent, Binary}
use Rattle.formula_code.specs.Codes.{has_valid_references}
use Rattle.formula_code.specs.Tokens.{absolute_node, is_valid_node, nodes_at}
use Rattle.formula_code.proofs.Forms.{nodes_of_tree}
use Rattle.calc_model.specs.Changes.{changed}
use Rattle.formula_code.specs.Nodes.{postfix}
use Rattle.formula_code.specs.Relative.{absolute, absolute_reference, from_distance, has_cols, has_rows, relative, relative_reference, to_distance}
use Rattle.formula_code.specs.Staying.{StaysAfter, StaysBy, form_after}
use Rattle.formula_code.proofs.NodeLists.{postfix-Ref, postfix-Call, postfix-Paren, postfix-Plus, postfix-Minus, postfix-Percent, postfix-Binary}
use Rattle.calc_model.proofs.Replaced.{replaced-Number, replaced-Words, replaced-Bad, replaced-Ref, replaced-Name, replaced-Call, replaced-Paren, replaced-Plus, replaced-Minus, replaced-Percent, replaced-Binary, replaced_after, replaced_twice}

front : (P : Node → Type 0) (xs ys : List Node) → AllByRecursion P (xs ++ ys) → AllByRecursion P xs
front P [] ys all = tt
front P (x ∷ xs) ys all = (all.0, front P xs ys all.1)

back : (P : Node → Type 0) (xs ys : List Node) → AllByRecursion P (xs ++ ys) → AllByRecursion P ys
back P [] ys all = all
back P (x ∷ xs) ys all = back P xs ys all.1

module _ (by : Reference → Tree) where
  abbrev All : List Node → Type 0
  All nodes = AllByRecursion (StaysBy by) nodes

  abbrev Stays : Tree → Type 0
  Stays x = All (postfix x) → replaced by x ≡ x

  children : (nodes : List Node) (x : Tree) (node : Node) → postfix x ≡ nodes ++ node ∷ [] → All (postfix x) → All nodes
  children nodes x node is all = front (StaysBy by) nodes (node ∷ []) (subst All is all)

  trees_stay : (xs : List Tree) → AllByRecursion Stays xs → All (flat_map postfix xs) → map (replaced by) xs ≡ xs
  trees_stay [] known all = refl
  trees_stay (x ∷ xs) known all =
      ap (λ y. y ∷ map (replaced by) xs) (known.0 (front (StaysBy by) (postfix x) (flat_map postfix xs) all))
      ∙ ap (λ ys. x ∷ ys) (trees_stay xs known.1 (back (StaysBy by) (postfix x) (flat_map postfix xs) all))

  pub stays : (x : Tree) → Stays x
  stays = tree_ind Stays (record {
    number = λ n all. replaced-Number by n;
    words = λ text all. replaced-Words by text;
    bad = λ fault all. replaced-Bad by fault;
    reference = λ r all. let own = subst All (postfix-Ref r) all in replaced-Ref by r ∙ own.0;
    name = λ name all. replaced-Name by name;
    call = λ name args known all. replaced-Call by name args ∙ ap (t.Call name) (trees_stay args known (children (flat_map postfix args) (t.Call name args) _ (postfix-Call name args) all));
    paren = λ x is all. replaced-Paren by x ∙ ap t.Paren (is (children (postfix x) (t.Paren x) _ (postfix-Paren x) all));
    plus = λ x is all. replaced-Plus by x ∙ ap t.Plus (is (children (postfix x) (t.Plus x) _ (postfix-Plus x) all));
    minus = λ x is all. replaced-Minus by x ∙ ap t.Minus (is (children (postfix x) (t.Minus x) _ (postfix-Minus x) all));
    percent = λ x is all. replaced-Percent by x ∙ ap t.Percent (is (children (postfix x) (t.Percent x) _ (postfix-Percent x) all));
    binary = λ op x y left right all.
        let both = children (postfix x ++ postfix y) (t.Binary op x y) _ (postfix-Binary op x y) all in
        replaced-Binary by op x y
        ∙ ap (λ z. t.Binary op z (replaced by y)) (left (front (StaysBy by) (postfix x) (postfix y) both))
        ∙ ap (t.Binary op x) (right (back (StaysBy by) (postfix x) (postfix y) both));
  })

pub form_stays : (change : Change) (home to : Place) (form : Tree) → AllByRecursion (StaysAfter change home to) (postfix form) → relative to (replaced (changed change home) (absolute home form)) ≡ form
form_stays change home to form all =
    ap (relative to) (replaced_twice (absolute_reference home) (changed change home) form)
    ∙ replaced_after (λ r. changed change home (absolute_reference home r)) (λ r. t.Ref (relative_reference to r)) (form_after change home to) (λ r. refl) form
    ∙ stays (form_after change home to) form all

-- a coordinate that lies in the sheet is at its distance
forth : (moves : Bool) (last home distance : ℕ) → 1 ≤ from_distance moves last home distance → to_distance moves last home (from_distance moves last home distance) ≡ distance
forth true last home distance from = omega (arith, from)
forth false last home distance from = refl

reference_forth : (home : Place) (r : Reference) → IsRectangle (absolute_reference home r).area → relative_reference home (absolute_reference home r) ≡ r
reference_forth home r lies =
    let first_col = forth (has_cols r.span && not r.marks.first_col) 1024 home.col r.area.first_col lies.cols_from in
    let last_col = forth (has_cols r.span && not r.marks.last_col) 1024 home.col r.area.last_col (omega (arith, lies.cols_from, lies.cols_in_order)) in
    let first_row = forth (has_rows r.span && not r.marks.first_row) 1048576 home.row r.area.first_row lies.rows_from in
    let last_row = forth (has_rows r.span && not r.marks.last_row) 1048576 home.row r.area.last_row (omega (arith, lies.rows_from, lies.rows_in_order)) in
    simp (first_col, last_col, first_row, last_row)

-- what becomes of a form's reference at home and back
abbrev forth_and_back : Place → Reference → Tree
forth_and_back home r = t.Ref (relative_reference home (absolute_reference home r))

node_stays : (home : Place) (node : Node) → is_valid_node (absolute_node home node) ≡ true → StaysBy (forth_and_back home) node
node_stays home (Ref r) valid = ap t.Ref (reference_forth home r (tested-valid (absolute_reference home r) valid).lies)
node_stays home (Number n) valid = tt
node_stays home (Words text) valid = tt
node_stays home (Bad fault) valid = tt
node_stays home (Name name) valid = tt
node_stays home (Call name args) valid = tt
node_stays home Paren valid = tt
node_stays home Plus valid = tt
node_stays home Minus valid = tt
node_stays home Percent valid = tt
node_stays home (Binary op) valid = tt

nodes_stay : (home : Place) (nodes : List Node) → list_all is_valid_node (nodes_at home nodes) ≡ true → AllByRecursion (StaysBy (forth_and_back home)) nodes
nodes_stay home [] valid = tt
nodes_stay home (node ∷ nodes) valid =
    let parts = and_parts (is_valid_node (absolute_node home node)) (list_all is_valid_node (nodes_at home nodes)) valid in
    (node_stays home node parts.0, nodes_stay home nodes parts.1)

pub form_forth : (home : Place) (form : Tree) → has_valid_references (absolute home form) ≡ true → relative home (absolute home form) ≡ form
form_forth home form valid =
    replaced_twice (absolute_reference home) (λ r. t.Ref (relative_reference home r)) form
    ∙ stays (forth_and_back home) form (nodes_stay home (postfix form) (ap (list_all is_valid_node) (nodes_of_tree home form) ∙ valid))

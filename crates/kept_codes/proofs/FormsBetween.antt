-- A relative form stays the same at each row of a column between two rows at which it does.
use Rattle.std.proofs.Common.{◌≡◌, ℕ, ◌+◌, ◌≤◌, nat_le, true, List, [], ◌∷◌, ◌++◌, map, Option, Some, None, refl, sym, ap, ◌∙◌}
use Rattle.std.specs.List.{AllByRecursion, flat_map, list_all}
use Rattle.std.proofs.lemmas.List.{map-append, length-map}
use Rattle.std.proofs.lemmas.List.Folds.{flat_map-map}
use Rattle.calc_addr.proofs.References.Tests.{tested-valid}
use Rattle.calc_addr.specs.declared.cell.TheConstants.{LAST_ROW}
use Rattle.calc_addr.specs.Places.{Place}
use Rattle.calc_addr.specs.References.{Reference}
use Rattle.calc_model.specs.declared.change.Change.{Change}
use Rattle.calc_model.specs.declared.fault.Fault.TheVariants.{BadRef}
use Rattle.calc_model.specs.declared.tree.Tree.{Tree}
use Rattle.calc_model.specs.declared.tree.Tree.TheVariants as t
use Rattle.calc_model.specs.Changes.{changed}
use Rattle.calc_model.specs.TreeShifts.{or_deleted, replaced}
use Rattle.calc_model.proofs.Areas.{both_true}
use Rattle.calc_model.proofs.Replaced.{replaced-Binary, replaced-Bad, replaced-Call, replaced-Minus, replaced-Name, replaced-Number, replaced-Paren, replaced-Percent, replaced-Plus, replaced-Ref, replaced-Words, replaced_after, replaced_twice}
use Rattle.calc_model.proofs.TreeInduction.{tree_ind}
use Rattle.formula_code.specs.Codes.{has_valid_references}
use Rattle.formula_code.specs.Nodes.{postfix}
use Rattle.formula_code.specs.Relative.{absolute, absolute_reference, relative, relative_reference}
use Rattle.formula_code.specs.Staying.{StaysBy}
use Rattle.formula_code.specs.Tokens.{absolute_node, is_valid_node, nodes_at}
use Rattle.formula_code.specs.declared.node.Node.{Node}
use Rattle.formula_code.specs.declared.node.Node.TheVariants.{Number, Words, Bad, Ref, Name, Call, Paren, Plus, Minus, Percent, Binary}
use Rattle.formula_code.proofs.Forms.{nodes_of_tree}
use Rattle.formula_code.proofs.NodeLists.{postfix-Bad, postfix-Binary, postfix-Call, postfix-Minus, postfix-Name, postfix-Number, postfix-Paren, postfix-Percent, postfix-Plus, postfix-Ref, postfix-Words}
use Rattle.formula_code.proofs.StayingForms.{stays}
use Rattle.kept_codes.specs.Columns.{cell_in}
use Rattle.kept_codes.specs.RowChanges.{IsRowChange, StaysIn, goes, place_of, tree_after}
use Rattle.kept_codes.proofs.RefsBetween.{after_is, reference_after, reference_between}

-- the node of what becomes of a reference
abbrev leaf : Option Reference → Node
leaf (Some r) = Ref r
leaf None = Bad BadRef

map_lists : (f : Node → Node) (h : Tree → List Node) (xs : List Tree) → AllByRecursion (λ x. map f (postfix x) ≡ h x) xs → map f (flat_map postfix xs) ≡ flat_map h xs
map_lists f h [] known = refl
map_lists f h (x ∷ xs) known = map-append f (postfix x) (flat_map postfix xs) ∙ ap (λ ys. ys ++ map f (flat_map postfix xs)) known.0 ∙ ap (λ ys. h x ++ ys) (map_lists f h xs known.1)

module _ (after : Reference → Option Reference) where
  abbrev by : Reference → Tree
  by r = or_deleted (after r)

  abbrev other : Tree → Tree
  other = replaced by

  abbrev node_by : Node → Node
  node_by (Ref r) = leaf (after r)
  node_by (Number n) = Number n
  node_by (Words text) = Words text
  node_by (Bad fault) = Bad fault
  node_by (Name name) = Name name
  node_by (Call name args) = Call name args
  node_by Paren = Paren
  node_by Plus = Plus
  node_by Minus = Minus
  node_by Percent = Percent
  node_by (Binary op) = Binary op

  one_node : (o : Option Reference) → postfix (or_deleted o) ≡ leaf o ∷ []
  one_node (Some r) = postfix-Ref r
  one_node None = postfix-Bad BadRef

  -- the nodes of the tree whose references are replaced
  nodes_by : (x : Tree) → map node_by (postfix x) ≡ postfix (other x)
  nodes_by = tree_ind (λ x. map node_by (postfix x) ≡ postfix (other x)) (record {
    number = λ n. rw (postfix-Number n, replaced-Number by n, postfix-Number n);
    words = λ text. rw (postfix-Words text, replaced-Words by text, postfix-Words text);
    bad = λ fault. rw (postfix-Bad fault, replaced-Bad by fault, postfix-Bad fault);
    reference = λ r. rw (postfix-Ref r, replaced-Ref by r, one_node (after r));
    name = λ name. rw (postfix-Name name, replaced-Name by name, postfix-Name name);
    call = λ name args known.
        rw (postfix-Call name args, replaced-Call by name args, postfix-Call name (map other args), map-append, length-map args other, flat_map-map postfix other args, map_lists node_by (λ x. postfix (other x)) args known);
    paren = λ x is. rw (postfix-Paren x, replaced-Paren by x, postfix-Paren (other x), map-append, is);
    plus = λ x is. rw (postfix-Plus x, replaced-Plus by x, postfix-Plus (other x), map-append, is);
    minus = λ x is. rw (postfix-Minus x, replaced-Minus by x, postfix-Minus (other x), map-append, is);
    percent = λ x is. rw (postfix-Percent x, replaced-Percent by x, postfix-Percent (other x), map-append, is);
    binary = λ op x y left right. rw (postfix-Binary op x y, replaced-Binary by op x y, postfix-Binary op (other x) (other y), map-append, map-append, left, right);
  })

  -- the node's reference stays
  abbrev Stays : Node → Type 0
  Stays (Ref r) = after r ≡ Some r
  Stays _ = Unit {0}

  leaf_stays : (node : Node) → node_by node ≡ node → Stays node
  leaf_stays (Ref r) is = same (after r) is
    where
      same : (o : Option Reference) → leaf o ≡ Ref r → o ≡ Some r
      same (Some s) h = cc
      same None h = cc
  leaf_stays (Number n) is = tt
  leaf_stays (Words text) is = tt
  leaf_stays (Bad fault) is = tt
  leaf_stays (Name name) is = tt
  leaf_stays (Call name args) is = tt
  leaf_stays Paren is = tt
  leaf_stays Plus is = tt
  leaf_stays Minus is = tt
  leaf_stays Percent is = tt
  leaf_stays (Binary op) is = tt

  stays_by : (node : Node) → Stays node → StaysBy by node
  stays_by (Ref r) is = ap or_deleted is
  stays_by (Number n) is = tt
  stays_by (Words text) is = tt
  stays_by (Bad fault) is = tt
  stays_by (Name name) is = tt
  stays_by (Call name args) is = tt
  stays_by Paren is = tt
  stays_by Plus is = tt
  stays_by Minus is = tt
  stays_by Percent is = tt
  stays_by (Binary op) is = tt

  each_stays : (nodes : List Node) → map node_by nodes ≡ nodes → AllByRecursion Stays nodes
  each_stays [] is = tt
  each_stays (node ∷ nodes) is = (leaf_stays node (first is), each_stays nodes (rest is))
    where
      first : node_by node ∷ map node_by nodes ≡ node ∷ nodes → node_by node ≡ node
      first h = cc

      rest : node_by node ∷ map node_by nodes ≡ node ∷ nodes → map node_by nodes ≡ nodes
      rest h = cc

  all_by : (nodes : List Node) → AllByRecursion Stays nodes → AllByRecursion (StaysBy by) nodes
  all_by [] all = tt
  all_by (node ∷ nodes) all = (stays_by node all.0, all_by nodes all.1)

  all_stay : (x : Tree) → other x ≡ x → AllByRecursion Stays (postfix x)
  all_stay x is = each_stays (postfix x) (nodes_by x ∙ ap postfix is)

  tree_stays : (x : Tree) → AllByRecursion Stays (postfix x) → other x ≡ x
  tree_stays x all = stays by x (all_by (postfix x) all)

-- what becomes of a form
form_after_is : (change : Change) (home to : Place) (form : Tree) → IsRowChange change → relative to (tree_after change home (absolute home form)) ≡ replaced (λ r. or_deleted (reference_after change home to r)) form
form_after_is change home to form rows =
    ap (relative to) (replaced_twice (absolute_reference home) (changed change home) form)
    ∙ replaced_after (λ r. changed change home (absolute_reference home r)) (λ r. t.Ref (relative_reference to r)) (λ r. or_deleted (reference_after change home to r)) (λ r. after_is change home to r rows) form

module _ (change : Change) (rows : IsRowChange change) (n x h y : ℕ) (first : x ≤ h) (last : h ≤ y) (side : nat_le (place_of change) x ≡ nat_le (place_of change) y) (at_x : StaysIn change (cell_in n x)) (low : (k : ℕ) → x ≤ k → k ≤ y → (goes change (cell_in n k)).row ≤ LAST_ROW) where
  abbrev At : ℕ → Node → Type 0
  At k = Stays (reference_after change (cell_in n k) (goes change (cell_in n k)))

  node_between : (node : Node) → ((k : ℕ) → x ≤ k → k ≤ y + 1 → is_valid_node (absolute_node (cell_in n k) node) ≡ true) → At x node → At y node → At h node
  node_between (Ref r) valid above below = reference_between n x h y first last r (λ k from to. (tested-valid (absolute_reference (cell_in n k) r) (valid k from to)).lies) change rows side at_x low above below
  node_between (Number n) valid above below = tt
  node_between (Words text) valid above below = tt
  node_between (Bad fault) valid above below = tt
  node_between (Name name) valid above below = tt
  node_between (Call name args) valid above below = tt
  node_between Paren valid above below = tt
  node_between Plus valid above below = tt
  node_between Minus valid above below = tt
  node_between Percent valid above below = tt
  node_between (Binary op) valid above below = tt

  nodes_between : (nodes : List Node) → ((k : ℕ) → x ≤ k → k ≤ y + 1 → list_all is_valid_node (nodes_at (cell_in n k) nodes) ≡ true) → AllByRecursion (At x) nodes → AllByRecursion (At y) nodes → AllByRecursion (At h) nodes
  nodes_between [] valid above below = tt
  nodes_between (node ∷ nodes) valid above below = (
    node_between node (λ k from to. (both_true (is_valid_node (absolute_node (cell_in n k) node)) (list_all is_valid_node (nodes_at (cell_in n k) nodes)) (valid k from to)).0) above.0 below.0,
    nodes_between nodes (λ k from to. (both_true (is_valid_node (absolute_node (cell_in n k) node)) (list_all is_valid_node (nodes_at (cell_in n k) nodes)) (valid k from to)).1) above.1 below.1,
  )

  pub form_between : (form : Tree) → ((k : ℕ) → x ≤ k → k ≤ y + 1 → has_valid_references (absolute (cell_in n k) form) ≡ true) → relative (goes change (cell_in n x)) (tree_after change (cell_in n x) (absolute (cell_in n x) form)) ≡ form → relative (goes change (cell_in n y)) (tree_after change (cell_in n y) (absolute (cell_in n y) form)) ≡ form → relative (goes change (cell_in n h)) (tree_after change (cell_in n h) (absolute (cell_in n h) form)) ≡ form
  form_between form valid above below =
      form_after_is change (cell_in n h) (goes change (cell_in n h)) form rows
      ∙ tree_stays (reference_after change (cell_in n h) (goes change (cell_in n h))) form
      (nodes_between (postfix form) (λ k from to. ap (list_all is_valid_node) (nodes_of_tree (cell_in n k) form) ∙ valid k from to)
      (all_stay (reference_after change (cell_in n x) (goes change (cell_in n x))) form (sym (form_after_is change (cell_in n x) (goes change (cell_in n x)) form rows) ∙ above))
      (all_stay (reference_after change (cell_in n y) (goes change (cell_in n y))) form (sym (form_after_is change (cell_in n y) (goes change (cell_in n y)) form rows) ∙ below)))

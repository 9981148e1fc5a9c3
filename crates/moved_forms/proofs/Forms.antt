-- The relative form of a formula that moves along a column is the same between two rows at which it is the same.
use Rattle.std.proofs.Common.{◌≡◌, ℕ, ◌≤◌, ℤ, pos, true, List, [], ◌∷◌, ◌++◌, map, Option, Some, None, ◌⊎◌, refl, sym, ap, ◌∙◌}
use Rattle.std.specs.Prelude.{◌-ℤ◌}
use Rattle.std.specs.List.{AllByRecursion, flat_map, list_all}
use Rattle.std.specs.Option.{option_map}
use Rattle.std.proofs.lemmas.List.{map-append, length-map}
use Rattle.std.proofs.lemmas.List.Folds.{flat_map-map}
use Rattle.calc_addr.proofs.References.Tests.{tested-valid}
use Rattle.calc_addr.specs.declared.cell.TheConstants.{LAST_ROW}
use Rattle.calc_addr.specs.Moves.{moved_reference}
use Rattle.calc_addr.specs.Places.{Place}
use Rattle.calc_addr.specs.References.{Reference}
use Rattle.calc_model.specs.declared.fault.Fault.TheVariants.{BadRef}
use Rattle.calc_model.specs.declared.tree.Tree.{Tree}
use Rattle.calc_model.specs.declared.tree.Tree.TheVariants as t
use Rattle.calc_model.specs.Formed.{is_formed}
use Rattle.calc_model.specs.TreeShifts.{moved_tree, or_deleted, replaced}
use Rattle.calc_model.proofs.Areas.{both_true}
use Rattle.calc_model.proofs.Replaced.{replaced-Bad, replaced-Binary, replaced-Call, replaced-Minus, replaced-Name, replaced-Number, replaced-Paren, replaced-Percent, replaced-Plus, replaced-Ref, replaced-Words, replaced_after}
use Rattle.calc_model.proofs.TreeInduction.{tree_ind}
use Rattle.formula_code.specs.Codes.{has_valid_references}
use Rattle.formula_code.specs.Nodes.{postfix}
use Rattle.formula_code.specs.Relative.{relative, relative_reference}
use Rattle.formula_code.specs.Tokens.{is_valid_node}
use Rattle.formula_code.specs.declared.node.Node.{Node}
use Rattle.formula_code.specs.declared.node.Node.TheVariants.{Number, Words, Bad, Ref, Name, Call, Paren, Plus, Minus, Percent, Binary}
use Rattle.formula_code.proofs.Built.{one_tree}
use Rattle.formula_code.proofs.FormedTrees.{formed_parts}
use Rattle.formula_code.proofs.NodeLists.{postfix-Bad, postfix-Binary, postfix-Call, postfix-Minus, postfix-Name, postfix-Number, postfix-Paren, postfix-Percent, postfix-Plus, postfix-Ref, postfix-Words}
use Rattle.moved_forms.specs.Alike.{moved_form}
use Rattle.moved_forms.proofs.References.{form, reference_between}

-- the node of what becomes of a reference
abbrev leaf : Option Reference → Node
leaf (Some r) = Ref r
leaf None = Bad BadRef

leaf_one : (o p : Option Reference) → leaf o ≡ leaf p → o ≡ p
leaf_one (Some r) (Some s) h = ap Some (same r s h)
  where
    same : (r s : Reference) → Ref r ≡ Ref s → r ≡ s
    same r s h = cc
leaf_one (Some r) None h = cc
leaf_one None (Some s) h = cc
leaf_one None None h = refl

map_lists : (f : Node → Node) (h : Tree → List Node) (xs : List Tree) → AllByRecursion (λ x. map f (postfix x) ≡ h x) xs → map f (flat_map postfix xs) ≡ flat_map h xs
map_lists f h [] known = refl
map_lists f h (x ∷ xs) known = map-append f (postfix x) (flat_map postfix xs) ∙ ap (λ ys. ys ++ map f (flat_map postfix xs)) known.0 ∙ ap (λ ys. h x ++ ys) (map_lists f h xs known.1)

module _ (after : Reference → Option Reference) where
  abbrev by : Reference → Tree
  by r = or_deleted (after r)

  abbrev pub other : Tree → Tree
  other = replaced by

  abbrev pub node_by : Node → Node
  node_by (Ref r) = leaf (after r)
  node_by (Number n) = Number n
  node_by (Words text) = Words text
  node_by (Bad fault) = Bad fault
  node_by (Name name) = Name name
  node_by (Call name args) = Call name args
  node_by Paren = Paren
  node_by Plus = Plus
  node_by Minus = Minus
  node_by Percent = Percent
  node_by (Binary op) = Binary op

  one_node : (o : Option Reference) → postfix (or_deleted o) ≡ leaf o ∷ []
  one_node (Some r) = postfix-Ref r
  one_node None = postfix-Bad BadRef

  -- the nodes of the tree whose references are replaced
  pub nodes_by : (x : Tree) → map node_by (postfix x) ≡ postfix (other x)
  nodes_by = tree_ind (λ x. map node_by (postfix x) ≡ postfix (other x)) (record {
    number = λ n. rw (postfix-Number n, replaced-Number by n, postfix-Number n);
    words = λ text. rw (postfix-Words text, replaced-Words by text, postfix-Words text);
    bad = λ fault. rw (postfix-Bad fault, replaced-Bad by fault, postfix-Bad fault);
    reference = λ r. rw (postfix-Ref r, replaced-Ref by r, one_node (after r));
    name = λ name. rw (postfix-Name name, replaced-Name by name, postfix-Name name);
    call = λ name args known.
        rw (postfix-Call name args, replaced-Call by name args, postfix-Call name (map other args), map-append, length-map args other, flat_map-map postfix other args, map_lists node_by (λ x. postfix (other x)) args known);
    paren = λ x is. rw (postfix-Paren x, replaced-Paren by x, postfix-Paren (other x), map-append, is);
    plus = λ x is. rw (postfix-Plus x, replaced-Plus by x, postfix-Plus (other x), map-append, is);
    minus = λ x is. rw (postfix-Minus x, replaced-Minus by x, postfix-Minus (other x), map-append, is);
    percent = λ x is. rw (postfix-Percent x, replaced-Percent by x, postfix-Percent (other x), map-append, is);
    binary = λ op x y left right. rw (postfix-Binary op x y, replaced-Binary by op x y, postfix-Binary op (other x) (other y), map-append, map-append, left, right);
  })

module _ (sheet col home : ℕ) (fits : home ≤ LAST_ROW) (cols : ℤ) where
  abbrev at : ℕ → Place
  at row = record { sheet = sheet; col = col; row = row }

  abbrev after : ℕ → Reference → Option Reference
  after row r = form sheet col home fits cols r row

  form_is : (row : ℕ) (tree : Tree) → relative (at row) (moved_tree cols (pos row -ℤ pos home) tree) ≡ other (after row) tree
  form_is row tree =
      replaced_after (λ r. or_deleted (moved_reference cols (pos row -ℤ pos home) r)) (λ r. t.Ref (relative_reference (at row) r)) (λ r. or_deleted (after row r)) (λ r. each (moved_reference cols (pos row -ℤ pos home) r)) tree
    where
      each : (o : Option Reference) → relative (at row) (or_deleted o) ≡ or_deleted (option_map (relative_reference (at row)) o)
      each (Some r) = replaced-Ref (λ r. t.Ref (relative_reference (at row) r)) r
      each None = replaced-Bad (λ r. t.Ref (relative_reference (at row) r)) BadRef

  module _ (x z y : ℕ) (low : x ≤ z) (high : z ≤ y) (side : (home ≤ x) ⊎ (y ≤ home)) where
    node_between : (node : Node) → is_valid_node node ≡ true → node_by (after x) node ≡ node_by (after y) node → node_by (after z) node ≡ node_by (after x) node
    node_between (Ref r) valid same = ap leaf (reference_between sheet col home fits cols x z y low high side r (tested-valid r valid).lies (leaf_one (after x r) (after y r) same))
    node_between (Number n) valid same = refl
    node_between (Words text) valid same = refl
    node_between (Bad fault) valid same = refl
    node_between (Name name) valid same = refl
    node_between (Call name args) valid same = refl
    node_between Paren valid same = refl
    node_between Plus valid same = refl
    node_between Minus valid same = refl
    node_between Percent valid same = refl
    node_between (Binary op) valid same = refl

    nodes_between : (nodes : List Node) → list_all is_valid_node nodes ≡ true → map (node_by (after x)) nodes ≡ map (node_by (after y)) nodes → map (node_by (after z)) nodes ≡ map (node_by (after x)) nodes
    nodes_between [] valid same = refl
    nodes_between (node ∷ nodes) valid same =
        let parts = both_true (is_valid_node node) (list_all is_valid_node nodes) valid in
        ap (λ n. n ∷ map (node_by (after z)) nodes) (node_between node parts.0 (first same))
        ∙ ap (λ ns. node_by (after x) node ∷ ns) (nodes_between nodes parts.1 (rest same))
      where
        first : node_by (after x) node ∷ map (node_by (after x)) nodes ≡ node_by (after y) node ∷ map (node_by (after y)) nodes → node_by (after x) node ≡ node_by (after y) node
        first h = cc

        rest : node_by (after x) node ∷ map (node_by (after x)) nodes ≡ node_by (after y) node ∷ map (node_by (after y)) nodes → map (node_by (after x)) nodes ≡ map (node_by (after y)) nodes
        rest h = cc

    forms_between : (tree : Tree) → has_valid_references tree ≡ true → other (after x) tree ≡ other (after y) tree → other (after z) tree ≡ other (after x) tree
    forms_between tree valid same =
        one_tree (other (after z) tree) (other (after x) tree)
        (sym (nodes_by (after z) tree)
        ∙ nodes_between (postfix tree) valid (nodes_by (after x) tree ∙ ap postfix same ∙ sym (nodes_by (after y) tree))
        ∙ nodes_by (after x) tree)

-- what is formed has valid references
pub valid_of : (tree : Tree) → is_formed tree ≡ true → has_valid_references tree ≡ true
valid_of tree formed = (both_true _ (has_valid_references tree) (sym (formed_parts tree) ∙ formed)).1

pub form_between : (from : Place) → from.row ≤ LAST_ROW → (tree : Tree) → is_formed tree ≡ true → (sheet col x z y : ℕ) → x ≤ z → z ≤ y → (from.row ≤ x) ⊎ (y ≤ from.row) → moved_form from tree (record { sheet = sheet; col = col; row = x }) ≡ moved_form from tree (record { sheet = sheet; col = col; row = y }) → moved_form from tree (record { sheet = sheet; col = col; row = z }) ≡ moved_form from tree (record { sheet = sheet; col = col; row = x })
form_between from fits tree formed sheet col x z y low high side same =
    let cols : ℤ = pos col -ℤ pos from.col in
    form_is sheet col from.row fits cols z tree
    ∙ forms_between sheet col from.row fits cols x z y low high side tree (valid_of tree formed) (sym (form_is sheet col from.row fits cols x tree) ∙ same ∙ form_is sheet col from.row fits cols y tree)
    ∙ sym (form_is sheet col from.row fits cols x tree)

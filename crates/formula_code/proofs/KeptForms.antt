-- The nodes that are written for a tree are its relative form's, and are compared as such.
use Rattle.std.proofs.Common.{◌≡◌, ℕ, true, List, [], ◌++◌, ap, sym, ◌∙◌}
use Rattle.std.proofs.lemmas.List.{append-nil, append_cancel_left}
use Rattle.calc_addr.specs.Places.{Place}
use Rattle.calc_model.specs.declared.tree.Tree.{Tree}
use Rattle.calc_model.specs.Formed.{is_formed}
use Rattle.formula_code.specs.declared.node.Node.{Node}
use Rattle.formula_code.specs.Building.{relative_nodes, tree_of}
use Rattle.formula_code.specs.Digests.{digest_at, form_digest}
use Rattle.formula_code.specs.Kept.{IsKept}
use Rattle.formula_code.specs.Nodes.{postfix}
use Rattle.formula_code.specs.Relative.{relative}
use Rattle.formula_code.proofs.Built.{tree_of-postfix}
use Rattle.formula_code.proofs.FormDigests.{digest_is}
use Rattle.formula_code.proofs.Forms.{form_of_tree}
use Rattle.formula_code.proofs.NodeLists.{relative_nodes_are}

pub written_tree : (home : Place) (x : Tree) (nodes : List Node) → nodes ≡ relative_nodes home x → tree_of nodes ≡ relative home x
written_tree home x nodes is = ap tree_of (is ∙ relative_nodes_are home x) ∙ tree_of-postfix (relative home x)

pub written_kept : (home : Place) (x : Tree) (digest : ℕ) (nodes : List Node) → is_formed x ≡ true → digest ≡ digest_at home x → nodes ≡ relative_nodes home x → IsKept nodes digest
written_kept home x digest nodes formed digested is =
    let tree = written_tree home x nodes is in
    record {
      listed = ap postfix tree ∙ sym (is ∙ relative_nodes_are home x);
      formed = rw tree (form_of_tree home x formed);
      digested = digested ∙ digest_is home x ∙ ap form_digest (sym tree);
    }

-- a form is that of the tree exactly where its nodes are
pub same_form : (home : Place) (x form : Tree) (nodes : List Node) → postfix form ≡ nodes → nodes ≡ relative_nodes home x → form ≡ relative home x
same_form home x form nodes listed is = sym (tree_of-postfix form) ∙ ap tree_of listed ∙ written_tree home x nodes is

pub same_nodes : (home : Place) (x form : Tree) (nodes : List Node) → postfix form ≡ nodes → form ≡ relative home x → nodes ≡ relative_nodes home x
same_nodes home x form nodes listed is = sym listed ∙ ap postfix is ∙ sym (relative_nodes_are home x)

-- what is left behind the nodes of a tree's form
pub whole_form : (home : Place) (x : Tree) (nodes rest : List Node) → postfix (tree_of nodes) ≡ nodes → nodes ≡ relative_nodes home x ++ rest → rest ≡ [] → tree_of nodes ≡ relative home x
whole_form home x nodes rest listed is none =
    same_form home x (tree_of nodes) nodes listed (is ∙ ap (λ ns. relative_nodes home x ++ ns) none ∙ append-nil (relative_nodes home x))

pub nothing_left : (home : Place) (x : Tree) (nodes rest : List Node) → postfix (tree_of nodes) ≡ nodes → nodes ≡ relative_nodes home x ++ rest → tree_of nodes ≡ relative home x → rest ≡ []
nothing_left home x nodes rest listed is same =
    append_cancel_left (relative_nodes home x) rest [] (sym is ∙ same_nodes home x (tree_of nodes) nodes listed same ∙ sym (append-nil (relative_nodes home x)))

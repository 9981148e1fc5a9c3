-- What holds of the forms that are kept.
use Rattle.std.proofs.Common.{◌≡◌, ◌≤◌, true, List, [], ◌∷◌, map, length, ap, sym, ◌∙◌, refl, arith}
use Rattle.std.specs.List.{list_all}
use Rattle.std.proofs.lemmas.Bool.{and_from, and_parts, leb-true}
use Rattle.calc_addr.specs.Places.{Place}
use Rattle.calc_addr.specs.References.{Reference}
use Rattle.calc_model.specs.declared.fault.Fault.TheVariants.{BadRef}
use Rattle.calc_model.specs.declared.tree.Tree.{Tree}
use Rattle.calc_model.specs.declared.tree.Tree.TheVariants as t
use Rattle.calc_model.specs.Formed.{is_formed}
use Rattle.calc_model.specs.Limits.{counts_of, is_in_limits, is_within}
use Rattle.calc_model.specs.TreeShifts.{replaced}
use Rattle.formula_code.specs.declared.node.Node.{Node}
use Rattle.formula_code.specs.declared.node.Node.TheVariants.{Number, Words, Bad, Ref, Name, Call, Paren, Plus, Minus, Percent, Binary}
use Rattle.formula_code.specs.Codes.{has_valid_references}
use Rattle.formula_code.specs.Kept.{IsForm, without_references}
use Rattle.formula_code.specs.Nodes.{postfix}
use Rattle.formula_code.specs.Relative.{absolute, absolute_reference, relative, relative_reference}
use Rattle.formula_code.specs.Tokens.{are_tokens, is_short_node, is_token, is_valid_node, node_with, nodes_at}
use Rattle.formula_code.proofs.CountedNodes.{counted}
use Rattle.formula_code.proofs.FormedTrees.{counts_same, formed_parts}
use Rattle.formula_code.proofs.NodeLists.{nodes_replaced}
use Rattle.calc_model.proofs.Replaced.{replaced_twice}

-- without references, a relative or absolute form is the tree without references
pub without_changed : (g : Reference → Reference) (x : Tree) → without_references (replaced (λ r. t.Ref (g r)) x) ≡ without_references x
without_changed g x = replaced_twice g (λ r. t.Bad BadRef) x

pub formed_is_form : (x : Tree) → is_formed x ≡ true → IsForm x
formed_is_form x is = (and_parts (is_formed (without_references x)) (has_valid_references x) (sym (formed_parts x) ∙ is)).0

-- a formed tree's references are valid
pub formed_is_valid : (x : Tree) → is_formed x ≡ true → has_valid_references x ≡ true
formed_is_valid x is = (and_parts (is_formed (without_references x)) (has_valid_references x) (sym (formed_parts x) ∙ is)).1

-- a form whose references are valid at a cell is a formed tree there
pub form_is_formed : (home : Place) (form : Tree) → IsForm form → has_valid_references (absolute home form) ≡ true → is_formed (absolute home form) ≡ true
form_is_formed home form is valid = formed_parts (absolute home form) ∙ and_from _ _ (ap is_formed (without_changed (absolute_reference home) form) ∙ is) valid

pub form_of_tree : (home : Place) (x : Tree) → is_formed x ≡ true → IsForm (relative home x)
form_of_tree home x is = ap is_formed (without_changed (relative_reference home) x) ∙ formed_is_form x is

-- its counts are within the limits
record IsLimited (x : Tree) : Type 0 where
  tokens : (counts_of x).tokens ≤ 1024
  parameters : (counts_of x).parameters ≤ 30

limited : (x : Tree) → IsForm x → IsLimited x
unfolding is_in_limits
limited x is =
    let within : is_within (counts_of x) ≡ true = ap is_within (sym (counts_same x)) ∙ (and_parts _ _ is).1 in
    let front = and_parts _ _ within in
    record {
      tokens = leb-true _ _ (and_parts _ _ front.0).0;
      parameters = leb-true _ _ front.1;
    }

-- and there are few of its nodes
pub few_nodes : (form : Tree) → IsForm form → length (postfix form) ≤ 1024
few_nodes form is = omega (arith, (counted form).few, (limited form is).tokens)

short_same : (change : Reference → Reference) (node : Node) → is_short_node (node_with change node) ≡ is_short_node node
short_same change (Number n) = refl
short_same change (Words text) = refl
short_same change (Bad fault) = refl
short_same change (Ref r) = refl
short_same change (Name name) = refl
short_same change (Call name args) = refl
short_same change Paren = refl
short_same change Plus = refl
short_same change Minus = refl
short_same change Percent = refl
short_same change (Binary op) = refl

both_all : (change : Reference → Reference) (nodes : List Node) → list_all is_valid_node (map (node_with change) nodes) ≡ true → list_all is_short_node nodes ≡ true → list_all is_token (map (node_with change) nodes) ≡ true
both_all change [] valid short = refl
both_all change (node ∷ nodes) valid short =
    let valids = and_parts (is_valid_node (node_with change node)) (list_all is_valid_node (map (node_with change) nodes)) valid in
    let shorts = and_parts (is_short_node node) (list_all is_short_node nodes) short in
    and_from _ _ (and_from _ _ valids.0 (short_same change node ∙ shorts.0)) (both_all change nodes valids.1 shorts.1)

-- the nodes of a form at a cell are those of its tree there
pub nodes_of_tree : (home : Place) (form : Tree) → nodes_at home (postfix form) ≡ postfix (absolute home form)
nodes_of_tree home form = nodes_replaced (absolute_reference home) form

-- where its references are valid they are tokens
pub form_tokens : (home : Place) (form : Tree) → IsForm form → has_valid_references (absolute home form) ≡ true → are_tokens (nodes_at home (postfix form)) ≡ true
form_tokens home form is valid =
    both_all (absolute_reference home) (postfix form) (ap (list_all is_valid_node) (nodes_of_tree home form) ∙ valid) ((counted form).short_calls (limited form is).parameters)

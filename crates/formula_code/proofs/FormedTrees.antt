-- A tree is formed where it is formed without its references, and these are valid.
use Rattle.std.proofs.Common.{◌≡◌, ℕ, ◌-◌, Bool, true, false, ◌&&◌, nat_le, List, [], ◌∷◌, ◌++◌, map, ap, sym, ◌∙◌, refl}
use Rattle.std.specs.List.{AllByRecursion, list_all, flat_map}
use Rattle.std.proofs.lemmas.Simd.{map-map}
use Rattle.std.proofs.lemmas.List.Folds.{list_all-append}
use Rattle.calc_addr.specs.References.{Reference}
use Rattle.calc_addr.specs.ValidReferences.{is_valid_reference}
use Rattle.calc_model.specs.declared.fault.Fault.TheVariants.{BadRef}
use Rattle.calc_model.specs.declared.tree.Op.{Op}
use Rattle.calc_model.specs.declared.tree.Tree.{Tree}
use Rattle.calc_model.specs.declared.tree.Tree.TheVariants as t
use Rattle.calc_model.specs.Formed.{Form, form_of, form_step, is_formed, is_well_formed, stands_within}
use Rattle.calc_model.specs.Grammar.{op_level}
use Rattle.calc_model.specs.Tokens.{has_no_small_letter, is_identifier}
use Rattle.calc_model.specs.Limits.{counts_of, counts_step, is_in_limits, is_within}
use Rattle.calc_model.proofs.TreeFolds.{at-Bad, at-Ref, at-Call, at-Paren, at-Plus, at-Minus, at-Percent, at-Binary}
use Rattle.calc_model.proofs.TreeInduction.{tree_ind}
use Rattle.formula_code.specs.Codes.{has_valid_references}
use Rattle.formula_code.specs.Kept.{without_references}
use Rattle.formula_code.specs.declared.node.Node.{Node}
use Rattle.formula_code.specs.Nodes.{postfix}
use Rattle.formula_code.specs.Tokens.{is_valid_node}
use Rattle.calc_model.proofs.Replaced.{replaced-Number, replaced-Words, replaced-Bad, replaced-Ref, replaced-Name, replaced-Call, replaced-Paren, replaced-Plus, replaced-Minus, replaced-Percent, replaced-Binary, map_known}
use Rattle.formula_code.proofs.NodeLists.{postfix-Number, postfix-Words, postfix-Bad, postfix-Ref, postfix-Name, postfix-Call, postfix-Paren, postfix-Plus, postfix-Minus, postfix-Percent, postfix-Binary}

-- the counts of a tree don't look at its references
pub counts_same : (x : Tree) → counts_of (without_references x) ≡ counts_of x
counts_same = tree_ind (λ x. counts_of (without_references x) ≡ counts_of x) (record {
  number = λ n. rw (replaced-Number _ n);
  words = λ text. rw (replaced-Words _ text);
  bad = λ fault. rw (replaced-Bad _ fault);
  reference = λ r. rw (replaced-Ref _ r, at-Ref _ counts_step r, at-Bad _ counts_step _);
  name = λ name. rw (replaced-Name _ name);
  call = λ name args known. rw (replaced-Call _ name args, at-Call _ counts_step name args, at-Call _ counts_step name (map without_references args), map-map counts_of without_references args, map_known (λ x. counts_of (without_references x)) counts_of args known);
  paren = λ x is. rw (replaced-Paren _ x, at-Paren _ counts_step x, at-Paren _ counts_step (without_references x), is);
  plus = λ x is. rw (replaced-Plus _ x, at-Plus _ counts_step x, at-Plus _ counts_step (without_references x), is);
  minus = λ x is. rw (replaced-Minus _ x, at-Minus _ counts_step x, at-Minus _ counts_step (without_references x), is);
  percent = λ x is. rw (replaced-Percent _ x, at-Percent _ counts_step x, at-Percent _ counts_step (without_references x), is);
  binary = λ op x y left right. rw (replaced-Binary _ op x y, at-Binary _ counts_step op x y, at-Binary _ counts_step op (without_references x) (without_references y), left, right);
})

-- tests in another order
regroup : (a b c d : Bool) → ((a && b) && (c && d)) ≡ ((a && c) && (b && d))
regroup true true c d = refl
regroup true false true d = refl
regroup true false false d = refl
regroup false b c d = refl

pub and_true : (a : Bool) → (a && true) ≡ a
and_true true = refl
and_true false = refl

move : (a b c : Bool) → ((a && b) && c) ≡ ((a && c) && b)
move true true c = sym (and_true c)
move true false true = refl
move true false false = refl
move false b c = refl

and_assoc : (a b c : Bool) → (a && (b && c)) ≡ ((a && b) && c)
and_assoc true b c = refl
and_assoc false b c = refl

abbrev stands : ℕ → Tree → Bool
stands level x = stands_within level (form_of x)

-- where a tree is formed without its references, and these are valid
pub record IsParted (x : Tree) : Type 0 where
  pub level : (form_of (without_references x)).level ≡ (form_of x).level
  pub formed : (form_of x).formed ≡ ((form_of (without_references x)).formed && has_valid_references x)

stands_parted : (level : ℕ) (x : Tree) → IsParted x → stands level x ≡ (stands level (without_references x) && has_valid_references x)
stands_parted level x is =
    let f = (form_of (without_references x)).formed in
    let v = has_valid_references x in
    let low = nat_le (form_of x).level level in
    ap (λ b. b && low) is.formed
    ∙ move f v low
    ∙ ap (λ n. (f && nat_le n level) && v) (sym is.level)

all_parted : (level : ℕ) (xs : List Tree) → AllByRecursion IsParted xs → list_all (stands_within level) (map form_of xs) ≡ (list_all (stands_within level) (map form_of (map without_references xs)) && list_all is_valid_node (flat_map postfix xs))
all_parted level [] known = refl
all_parted level (x ∷ xs) known =
    let rest = list_all (stands_within level) (map form_of (map without_references xs)) in
    let valid = list_all is_valid_node (flat_map postfix xs) in
    ap (λ b. b && list_all (stands_within level) (map form_of xs)) (stands_parted level x known.0)
    ∙ ap (λ b. (stands level (without_references x) && has_valid_references x) && b) (all_parted level xs known.1)
    ∙ regroup (stands level (without_references x)) (has_valid_references x) rest valid
    ∙ ap (λ b. (stands level (without_references x) && rest) && b) (sym (list_all-append is_valid_node (postfix x) (flat_map postfix xs)))

-- the references of a node with one more node behind its children's
pub valid_behind : (nodes : List Node) (x : Tree) (node : Node) → postfix x ≡ nodes ++ node ∷ [] → is_valid_node node ≡ true → has_valid_references x ≡ list_all is_valid_node nodes
valid_behind nodes x node is valid =
    ap (list_all is_valid_node) is
    ∙ list_all-append is_valid_node nodes (node ∷ [])
    ∙ ap (λ b. list_all is_valid_node nodes && (b && true)) valid
    ∙ and_true (list_all is_valid_node nodes)

leaf : (x : Tree) → without_references x ≡ x → has_valid_references x ≡ true → IsParted x
leaf x same valid = record {
  level = ap (λ y. (form_of y).level) same;
  formed = sym (ap (λ y. (form_of y).formed && has_valid_references x) same ∙ ap (λ b. (form_of x).formed && b) valid ∙ and_true (form_of x).formed);
}

-- a node round one child that stands at a level
around : (level own : ℕ) (x y : Tree) → form_of y ≡ record { level = own; formed = stands level x } → form_of (without_references y) ≡ record { level = own; formed = stands level (without_references x) } → has_valid_references y ≡ has_valid_references x → IsParted x → IsParted y
around level own x y form without valid is = record {
  level = ap (λ (f : Form). f.level) without ∙ sym (ap (λ (f : Form). f.level) form);
  formed =
      ap (λ (f : Form). f.formed) form
      ∙ stands_parted level x is
      ∙ ap (λ b. stands level (without_references x) && b) (sym valid)
      ∙ ap (λ b. b && has_valid_references y) (sym (ap (λ (f : Form). f.formed) without));
}

reference_parted : (r : Reference) → IsParted (t.Ref r)
reference_parted r = record {
  level = rw (replaced-Ref _ r, at-Ref _ form_step r, at-Bad _ form_step BadRef);
  formed = rw (replaced-Ref _ r, at-Ref _ form_step r, at-Bad _ form_step BadRef, postfix-Ref r) (sym (and_true (is_valid_reference r)));
}

call_parted : (name : List ℕ) (args : List Tree) → AllByRecursion IsParted args → IsParted (t.Call name args)
call_parted name args known =
    let named = is_identifier name && has_no_small_letter name in
    let all = list_all (stands_within 6) (map form_of (map without_references args)) in
    record {
      level = rw (replaced-Call _ name args, at-Call _ form_step name args, at-Call _ form_step name (map without_references args));
      formed =
          rw (replaced-Call _ name args, at-Call _ form_step name args, at-Call _ form_step name (map without_references args), valid_behind (flat_map postfix args) (t.Call name args) _ (postfix-Call name args) refl, all_parted 6 args known)
          (and_assoc named all (list_all is_valid_node (flat_map postfix args)));
    }

binary_parted : (op : Op) (x y : Tree) → IsParted x → IsParted y → IsParted (t.Binary op x y)
binary_parted op x y left right = record {
  level = rw (replaced-Binary _ op x y, at-Binary _ form_step op x y, at-Binary _ form_step op (without_references x) (without_references y));
  formed =
      rw (replaced-Binary _ op x y, at-Binary _ form_step op x y, at-Binary _ form_step op (without_references x) (without_references y), valid_behind (postfix x ++ postfix y) (t.Binary op x y) _ (postfix-Binary op x y) refl, list_all-append is_valid_node (postfix x) (postfix y), stands_parted (op_level op) x left, stands_parted (op_level op - 1) y right)
      (regroup (stands (op_level op) (without_references x)) (has_valid_references x) (stands (op_level op - 1) (without_references y)) (has_valid_references y));
}

pub parted : (x : Tree) → IsParted x
parted = tree_ind IsParted (record {
  number = λ n. leaf (t.Number n) (replaced-Number _ n) (ap (list_all is_valid_node) (postfix-Number n));
  words = λ text. leaf (t.Words text) (replaced-Words _ text) (ap (list_all is_valid_node) (postfix-Words text));
  bad = λ fault. leaf (t.Bad fault) (replaced-Bad _ fault) (ap (list_all is_valid_node) (postfix-Bad fault));
  reference = reference_parted;
  name = λ name. leaf (t.Name name) (replaced-Name _ name) (ap (list_all is_valid_node) (postfix-Name name));
  call = call_parted;
  paren = λ x is. around 6 0 x (t.Paren x) (at-Paren _ form_step x) (rw (replaced-Paren _ x) (at-Paren _ form_step (without_references x))) (valid_behind (postfix x) (t.Paren x) _ (postfix-Paren x) refl) is;
  plus = λ x is. around 0 0 x (t.Plus x) (at-Plus _ form_step x) (rw (replaced-Plus _ x) (at-Plus _ form_step (without_references x))) (valid_behind (postfix x) (t.Plus x) _ (postfix-Plus x) refl) is;
  minus = λ x is. around 0 0 x (t.Minus x) (at-Minus _ form_step x) (rw (replaced-Minus _ x) (at-Minus _ form_step (without_references x))) (valid_behind (postfix x) (t.Minus x) _ (postfix-Minus x) refl) is;
  percent = λ x is. around 1 1 x (t.Percent x) (at-Percent _ form_step x) (rw (replaced-Percent _ x) (at-Percent _ form_step (without_references x))) (valid_behind (postfix x) (t.Percent x) _ (postfix-Percent x) refl) is;
  binary = binary_parted;
})

-- a formed tree's references are valid, and without them it is formed; and so the other way round
pub formed_parts : (x : Tree) → is_formed x ≡ (is_formed (without_references x) && has_valid_references x)
unfolding is_well_formed is_in_limits
formed_parts x =
    let counted = is_in_limits x in
    ap (λ b. b && counted) (parted x).formed
    ∙ move (form_of (without_references x)).formed (has_valid_references x) counted
    ∙ ap (λ n. ((form_of (without_references x)).formed && is_within n) && has_valid_references x) (sym (counts_same x))

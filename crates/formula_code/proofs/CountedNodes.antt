-- A tree within the limits has few nodes, and short calls.
use Rattle.std.proofs.Common.{◌≡◌, ℕ, ◌+◌, ◌≤◌, max, sum, fold, Bool, true, nat_le, List, [], ◌∷◌, ◌++◌, map, length, ap, refl, arith}
use Rattle.std.specs.List.{AllByRecursion, list_all, flat_map}
use Rattle.std.proofs.lemmas.Bool.{le-leb, and_from}
use Rattle.std.proofs.lemmas.List.{length-append, length-map}
use Rattle.std.proofs.lemmas.List.Folds.{list_all-append}
use Rattle.std.proofs.lemmas.List.Sums.{sum_by-cons}
use Rattle.calc_model.specs.declared.tree.Op.{Op}
use Rattle.calc_model.specs.declared.tree.Tree.{Tree}
use Rattle.calc_model.specs.declared.tree.Tree.TheVariants as t
use Rattle.calc_model.specs.Limits.{Counts, counts_of, counts_step}
use Rattle.calc_model.proofs.TreeFolds.{at-Number, at-Words, at-Bad, at-Ref, at-Name, at-Call, at-Paren, at-Plus, at-Minus, at-Percent, at-Binary}
use Rattle.calc_model.proofs.TreeInduction.{tree_ind}
use Rattle.formula_code.specs.declared.node.Node.{Node}
use Rattle.formula_code.specs.declared.node.Node.TheVariants.{Call, Binary}
use Rattle.formula_code.specs.Nodes.{postfix}
use Rattle.formula_code.specs.Tokens.{is_short_node}
use Rattle.formula_code.proofs.NodeLists.{postfix-Number, postfix-Words, postfix-Bad, postfix-Ref, postfix-Name, postfix-Call, postfix-Paren, postfix-Plus, postfix-Minus, postfix-Percent, postfix-Binary}

abbrev short : List Node → Bool
short nodes = list_all is_short_node nodes

pub record IsCounted (x : Tree) : Type 0 where
  pub few : length (postfix x) ≤ (counts_of x).tokens
  pub short_calls : (counts_of x).parameters ≤ 30 → short (postfix x) ≡ true

leaf : (x : Tree) (node : Node) → postfix x ≡ node ∷ [] → is_short_node node ≡ true → (counts_of x).tokens ≡ 1 → IsCounted x
leaf x node is fits one = record {
  few = rw (is, one) (omega arith);
  short_calls = λ _. rw is (and_from _ _ fits refl);
}

behind : (x y : Tree) (node : Node) → postfix y ≡ postfix x ++ node ∷ [] → is_short_node node ≡ true → (counts_of x).tokens + 1 ≤ (counts_of y).tokens → (counts_of y).parameters ≡ (counts_of x).parameters → IsCounted x → IsCounted y
behind x y node is fits more same counted = record {
  few = rw is (omega (arith, length-append (postfix x) (node ∷ []), counted.few));
  short_calls = λ low. rw (is, list_all-append is_short_node (postfix x) (node ∷ [])) (and_from _ _ (counted.short_calls (omega arith)) (and_from _ _ fits refl));
}

-- the greatest of some numbers is no less than where it begins
start_below : (a : ℕ) (ns : List ℕ) → a ≤ fold max a ns
start_below a [] = omega arith
start_below a (n ∷ ns) = omega (arith, start_below (max a n) ns)

all_few : (xs : List Tree) → AllByRecursion IsCounted xs → length (flat_map postfix xs) ≤ sum (map (λ (arg : Counts). arg.tokens) (map counts_of xs))
all_few [] known = omega arith
all_few (x ∷ xs) known = omega (arith, length-append (postfix x) (flat_map postfix xs), known.0.few, all_few xs known.1, sum_by-cons (λ n. n) (counts_of x).tokens (map (λ (arg : Counts). arg.tokens) (map counts_of xs)))

all_short : (a : ℕ) (xs : List Tree) → AllByRecursion IsCounted xs → fold max a (map (λ (arg : Counts). arg.parameters) (map counts_of xs)) ≤ 30 → short (flat_map postfix xs) ≡ true
all_short a [] known low = refl
all_short a (x ∷ xs) known low =
    let most_of = λ (b : ℕ). fold max b (map (λ (arg : Counts). arg.parameters) (map counts_of xs)) in
    let own : (counts_of x).parameters ≤ 30 = omega (arith, low, start_below (max a (counts_of x).parameters) (map (λ (arg : Counts). arg.parameters) (map counts_of xs))) in
    rw (list_all-append is_short_node (postfix x) (flat_map postfix xs)) (and_from _ _ (known.0.short_calls own) (all_short (max a (counts_of x).parameters) xs known.1 low))

call_counted : (name : List ℕ) (args : List Tree) → AllByRecursion IsCounted args → IsCounted (t.Call name args)
call_counted name args known =
    let counts = at-Call _ counts_step name args in
    let few = all_few args known in
    record {
      few = rw (counts, postfix-Call name args) (omega (arith, length-append (flat_map postfix args) (Call name (length args) ∷ []), few));
      short_calls = rw (counts, postfix-Call name args) (λ low.
          let own : nat_le (length args) 30 ≡ true = le-leb _ _ (omega (arith, low, length-map args counts_of)) in
          rw (list_all-append is_short_node (flat_map postfix args) (Call name (length args) ∷ [])) (and_from _ _ (all_short 0 args known (omega (arith, low))) (and_from _ _ own refl)));
    }

binary_counted : (op : Op) (x y : Tree) → IsCounted x → IsCounted y → IsCounted (t.Binary op x y)
binary_counted op x y left right =
    let counts = at-Binary _ counts_step op x y in
    record {
      few = rw (counts, postfix-Binary op x y) (omega (arith, length-append (postfix x ++ postfix y) (Binary op ∷ []), length-append (postfix x) (postfix y), left.few, right.few));
      short_calls = rw (counts, postfix-Binary op x y) (λ low.
          rw (list_all-append is_short_node (postfix x ++ postfix y) (Binary op ∷ []), list_all-append is_short_node (postfix x) (postfix y))
          (and_from _ _ (and_from _ _ (left.short_calls (omega (arith, low))) (right.short_calls (omega (arith, low)))) refl));
    }

pub counted : (x : Tree) → IsCounted x
counted = tree_ind IsCounted (record {
  number = λ n. leaf _ _ (postfix-Number n) refl (ap (λ (c : Counts). c.tokens) (at-Number _ counts_step n));
  words = λ text. leaf _ _ (postfix-Words text) refl (ap (λ (c : Counts). c.tokens) (at-Words _ counts_step text));
  bad = λ fault. leaf _ _ (postfix-Bad fault) refl (ap (λ (c : Counts). c.tokens) (at-Bad _ counts_step fault));
  reference = λ r. leaf _ _ (postfix-Ref r) refl (ap (λ (c : Counts). c.tokens) (at-Ref _ counts_step r));
  name = λ name. leaf _ _ (postfix-Name name) refl (ap (λ (c : Counts). c.tokens) (at-Name _ counts_step name));
  call = call_counted;
  paren = λ x is. behind x (t.Paren x) _ (postfix-Paren x) refl (rw (at-Paren _ counts_step x) (omega arith)) (ap (λ (c : Counts). c.parameters) (at-Paren _ counts_step x)) is;
  plus = λ x is. behind x (t.Plus x) _ (postfix-Plus x) refl (rw (at-Plus _ counts_step x) (omega arith)) (ap (λ (c : Counts). c.parameters) (at-Plus _ counts_step x)) is;
  minus = λ x is. behind x (t.Minus x) _ (postfix-Minus x) refl (rw (at-Minus _ counts_step x) (omega arith)) (ap (λ (c : Counts). c.parameters) (at-Minus _ counts_step x)) is;
  percent = λ x is. behind x (t.Percent x) _ (postfix-Percent x) refl (rw (at-Percent _ counts_step x) (omega arith)) (ap (λ (c : Counts). c.parameters) (at-Percent _ counts_step x)) is;
  binary = binary_counted;
})

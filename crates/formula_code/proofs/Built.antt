-- The nodes of a tree build it again.
use Rattle.std.proofs.Common.{◌≡◌, ℕ, List, [], ◌∷◌, ◌++◌, map, length, take, drop, reverse, Some, nat_le, true, ap, sym, ◌∙◌, refl, arith, Option, None, IsSome, option_and_then}
use Rattle.std.specs.List.{AllByRecursion, flat_map}
use Rattle.std.proofs.lemmas.List.{append-nil, append_assoc, length-map, length-reverse, length-append, reverse-append, reverse-reverse}
use Rattle.std.proofs.lemmas.Bool.{le-leb}
use Rattle.std.proofs.Math.Seq.{take-append_seam, drop-append_seam}
use Rattle.calc_addr.specs.References.{Reference}
use Rattle.calc_model.specs.declared.tree.Tree.{Tree}
use Rattle.calc_model.specs.declared.tree.Tree.TheVariants as t
use Rattle.calc_model.specs.TreeShifts.{replaced}
use Rattle.calc_model.proofs.TreeInduction.{tree_ind}
use Rattle.formula_code.specs.declared.node.Node.{Node}
use Rattle.formula_code.specs.declared.node.Node.TheVariants.{Number, Words, Bad, Ref, Name, Call, Paren, Plus, Minus, Percent, Binary}
use Rattle.formula_code.specs.Building.{Builds, built, built_on, top_of, tree_of}
use Rattle.formula_code.specs.Nodes.{postfix}
use Rattle.calc_model.proofs.Replaced.{replaced-Number, replaced-Words, replaced-Bad, replaced-Ref, replaced-Name, replaced-Call, replaced-Paren, replaced-Plus, replaced-Minus, replaced-Percent, replaced-Binary, replaced_same}
use Rattle.formula_code.proofs.NodeLists.{postfix-Number, postfix-Words, postfix-Bad, postfix-Ref, postfix-Name, postfix-Call, postfix-Paren, postfix-Plus, postfix-Minus, postfix-Percent, postfix-Binary}

module _ (by : Reference → Tree) where
  abbrev other : Tree → Tree
  other = replaced by

  -- a tree's nodes put it on the stack
  abbrev IsBuilt : Tree → Type 0
  IsBuilt x = (rest : List Node) (trees : List Tree) → built by (postfix x ++ rest) trees ≡ built by rest (other x ∷ trees)

  pub cons : (node : Node) (nodes : List Node) (trees : List Tree) (after : List Tree) → built_on by node trees ≡ Some after → built by (node ∷ nodes) trees ≡ built by nodes after
  unfolding built
  cons node nodes trees after is = rw is

  all_built : (xs : List Tree) → AllByRecursion IsBuilt xs → (rest : List Node) (trees : List Tree) → built by (flat_map postfix xs ++ rest) trees ≡ built by rest (reverse (map other xs) ++ trees)
  all_built [] known rest trees = refl
  all_built (x ∷ xs) known rest trees =
      ap (λ nodes. built by nodes trees) (append_assoc (postfix x) (flat_map postfix xs) rest)
      ∙ known.0 (flat_map postfix xs ++ rest) trees
      ∙ all_built xs known.1 rest (other x ∷ trees)
      ∙ ap (built by rest) (sym (ap (λ ys. ys ++ trees) (reverse-append (other x ∷ []) (map other xs)) ∙ append_assoc (reverse (map other xs)) (other x ∷ []) trees))

  pub taken : (name : List ℕ) (xs trees : List Tree) → built_on by (Call name (length xs)) (reverse xs ++ trees) ≡ Some (t.Call name xs ∷ trees)
  taken name xs trees =
      let size : length xs ≡ length (reverse xs) = sym (length-reverse xs) in
      let fits : nat_le (length xs) (length (reverse xs ++ trees)) ≡ true = le-leb _ _ (omega (arith, length-append (reverse xs) trees, size)) in
      let took : take (length xs) (reverse xs ++ trees) ≡ reverse xs = ap (λ n. take n (reverse xs ++ trees)) size ∙ take-append_seam (reverse xs) trees in
      let left : drop (length xs) (reverse xs ++ trees) ≡ trees = ap (λ n. drop n (reverse xs ++ trees)) size ∙ drop-append_seam (reverse xs) trees in
      rw (fits, took, left, reverse-reverse)

  called : (name : List ℕ) (xs trees : List Tree) → built_on by (Call name (length xs)) (reverse (map other xs) ++ trees) ≡ Some (t.Call name (map other xs) ∷ trees)
  called name xs trees = ap (λ n. built_on by (Call name n) (reverse (map other xs) ++ trees)) (sym (length-map xs other)) ∙ taken name (map other xs) trees

  pub builds : (x : Tree) → IsBuilt x
  builds = tree_ind IsBuilt (record {
    number = λ n rest trees. rw (postfix-Number n, replaced-Number _ n) (cons (Number n) rest trees _ refl);
    words = λ text rest trees. rw (postfix-Words text, replaced-Words _ text) (cons (Words text) rest trees _ refl);
    bad = λ fault rest trees. rw (postfix-Bad fault, replaced-Bad _ fault) (cons (Bad fault) rest trees _ refl);
    reference = λ r rest trees. rw (postfix-Ref r, replaced-Ref _ r) (cons (Ref r) rest trees _ refl);
    name = λ name rest trees. rw (postfix-Name name, replaced-Name _ name) (cons (Name name) rest trees _ refl);
    call = λ name args known rest trees.
        rw (postfix-Call name args, replaced-Call _ name args, append_assoc)
        (all_built args known (Call name (length args) ∷ rest) trees ∙ cons (Call name (length args)) rest (reverse (map other args) ++ trees) _ (called name args trees));
    paren = λ x is rest trees. rw (postfix-Paren x, replaced-Paren _ x, append_assoc) (is (Paren ∷ rest) trees ∙ cons Paren rest (other x ∷ trees) _ refl);
    plus = λ x is rest trees. rw (postfix-Plus x, replaced-Plus _ x, append_assoc) (is (Plus ∷ rest) trees ∙ cons Plus rest (other x ∷ trees) _ refl);
    minus = λ x is rest trees. rw (postfix-Minus x, replaced-Minus _ x, append_assoc) (is (Minus ∷ rest) trees ∙ cons Minus rest (other x ∷ trees) _ refl);
    percent = λ x is rest trees. rw (postfix-Percent x, replaced-Percent _ x, append_assoc) (is (Percent ∷ rest) trees ∙ cons Percent rest (other x ∷ trees) _ refl);
    binary = λ op x y left right rest trees.
        rw (postfix-Binary op x y, replaced-Binary _ op x y, append_assoc, append_assoc)
        (left (postfix y ++ (Binary op ∷ rest)) trees ∙ right (Binary op ∷ rest) (other x ∷ trees) ∙ cons (Binary op) rest (other y ∷ other x ∷ trees) _ refl);
  })

-- and nothing else
pub built_whole : (by : Reference → Tree) (x : Tree) → built by (postfix x) [] ≡ Some (replaced by x ∷ [])
unfolding built
built_whole by x = ap (λ nodes. built by nodes []) (sym (append-nil (postfix x))) ∙ builds by x [] []

pub tree_of-postfix : (x : Tree) → tree_of (postfix x) ≡ x
unfolding tree_of
tree_of-postfix x = ap top_of (built_whole t.Ref x) ∙ replaced_same t.Ref (λ r. refl) x

some_first : (next : List Tree → Option (List Tree)) (first : Option (List Tree)) (whole : List Tree) → option_and_then next first ≡ Some whole → IsSome first
some_first next (Some trees) whole is = refl
some_first next None whole is = cc

-- where all nodes build something, each finds its children
pub finds_children : (by : Reference → Tree) (node : Node) (nodes : List Node) (trees whole : List Tree) → built by (node ∷ nodes) trees ≡ Some whole → IsSome (built_on by node trees)
unfolding built
finds_children by node nodes trees whole is = some_first (built by nodes) (built_on by node trees) whole is

some_same : (a b : List Tree) → Some a ≡ Some b → a ≡ b
some_same a b e = cc

-- what is left on the stack where all nodes built one tree
pub end_whole : (by : Reference → Tree) (nodes whole : List Node) (trees : List Tree) (x : Tree) → nodes ≡ [] → built by nodes (reverse trees) ≡ built by whole [] → Builds by whole x → reverse trees ≡ x ∷ []
unfolding built
end_whole by nodes whole trees x none same is = some_same (reverse trees) (x ∷ []) (ap (λ ns. built by ns (reverse trees)) (sym none) ∙ same ∙ is)

pub last_is : (rest trees : List Tree) (tree x : Tree) → trees ≡ rest ++ tree ∷ [] → reverse trees ≡ x ∷ [] → tree ≡ x
last_is rest trees tree x is one =
    let both : tree ∷ reverse rest ≡ x ∷ [] = sym (reverse-append rest (tree ∷ [])) ∙ ap reverse (sym is) ∙ one in
    cc

pub one_left : (trees : List Tree) (x : Tree) → trees ≡ [] → reverse trees ≡ x ∷ [] → ⊥
one_left trees x none one =
    let both : [] ≡ x ∷ [] = ap reverse (sym none) ∙ one in
    cc

-- the nodes of a tree build no other
pub only_built : (by : Reference → Tree) (nodes : List Node) (x y : Tree) → nodes ≡ postfix x → Builds by nodes y → y ≡ replaced by x
only_built by nodes x y is built_y =
    let both : Some (y ∷ []) ≡ Some (replaced by x ∷ []) = sym built_y ∙ ap (λ ns. built by ns []) is ∙ built_whole by x in
    cc

pub one_tree : (x y : Tree) → postfix x ≡ postfix y → x ≡ y
one_tree x y same = sym (tree_of-postfix x) ∙ ap tree_of same ∙ tree_of-postfix y

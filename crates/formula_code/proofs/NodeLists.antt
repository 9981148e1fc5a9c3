-- The nodes of trees: those of a relative form, and those of the tree at a cell.
use Rattle.std.proofs.Common.{◌≡◌, ℕ, ℤ, List, [], ◌∷◌, ◌++◌, map, length, ap, sym, ◌∙◌, refl}
use Rattle.std.specs.List.{AllByRecursion, flat_map}
use Rattle.std.proofs.lemmas.List.{map-append, length-map}
use Rattle.std.proofs.lemmas.List.Folds.{flat_map-map}
use Rattle.calc_addr.specs.Places.{Place}
use Rattle.calc_addr.specs.References.{Reference}
use Rattle.calc_model.specs.declared.fault.Fault.{Fault}
use Rattle.calc_model.specs.declared.tree.Op.{Op}
use Rattle.calc_model.specs.declared.tree.Tree.{Tree}
use Rattle.calc_model.specs.declared.tree.Tree.TheVariants as t
use Rattle.calc_model.specs.TreeShifts.{replaced}
use Rattle.calc_model.proofs.TreeFolds.{at-Number, at-Words, at-Bad, at-Ref, at-Name, at-Call, at-Paren, at-Plus, at-Minus, at-Percent, at-Binary}
use Rattle.calc_model.proofs.TreeInduction.{tree_ind}
use Rattle.formula_code.specs.declared.node.Node.{Node}
use Rattle.formula_code.specs.declared.node.Node.TheVariants.{Number, Words, Bad, Ref, Name, Call, Paren, Plus, Minus, Percent, Binary}
use Rattle.formula_code.specs.Building.{relative_nodes}
use Rattle.formula_code.specs.Nodes.{postfix, postfix_step}
use Rattle.formula_code.specs.Relative.{relative, relative_reference}
use Rattle.formula_code.specs.Tokens.{node_with}
use Rattle.calc_model.proofs.Replaced.{replaced-Number, replaced-Words, replaced-Bad, replaced-Ref, replaced-Name, replaced-Call, replaced-Paren, replaced-Plus, replaced-Minus, replaced-Percent, replaced-Binary}

-- the nodes at each kind of node
pub postfix-Number : (n : ℤ) → postfix (t.Number n) ≡ Number n ∷ []
unfolding postfix
postfix-Number n = at-Number (List Node) postfix_step n

pub postfix-Words : (text : List ℕ) → postfix (t.Words text) ≡ Words text ∷ []
unfolding postfix
postfix-Words text = at-Words (List Node) postfix_step text

pub postfix-Bad : (fault : Fault) → postfix (t.Bad fault) ≡ Bad fault ∷ []
unfolding postfix
postfix-Bad fault = at-Bad (List Node) postfix_step fault

pub postfix-Name : (name : List ℕ) → postfix (t.Name name) ≡ Name name ∷ []
unfolding postfix
postfix-Name name = at-Name (List Node) postfix_step name

pub postfix-Ref : (r : Reference) → postfix (t.Ref r) ≡ Ref r ∷ []
unfolding postfix
postfix-Ref r = at-Ref (List Node) postfix_step r

same_lists : (xs : List Tree) → flat_map (λ (nodes : List Node). nodes) (map postfix xs) ≡ flat_map postfix xs
same_lists xs = flat_map-map (λ (nodes : List Node). nodes) postfix xs

called : (name : List ℕ) (args : List Tree) → postfix (t.Call name args) ≡ flat_map (λ (nodes : List Node). nodes) (map postfix args) ++ Call name (length (map postfix args)) ∷ []
unfolding postfix
called name args = at-Call (List Node) postfix_step name args

pub postfix-Call : (name : List ℕ) (args : List Tree) → postfix (t.Call name args) ≡ flat_map postfix args ++ Call name (length args) ∷ []
postfix-Call name args =
    called name args
    ∙ ap (λ nodes. nodes ++ Call name (length (map postfix args)) ∷ []) (same_lists args)
    ∙ ap (λ n. flat_map postfix args ++ Call name n ∷ []) (length-map args postfix)

pub postfix-Paren : (x : Tree) → postfix (t.Paren x) ≡ postfix x ++ Paren ∷ []
unfolding postfix
postfix-Paren x = at-Paren (List Node) postfix_step x

pub postfix-Plus : (x : Tree) → postfix (t.Plus x) ≡ postfix x ++ Plus ∷ []
unfolding postfix
postfix-Plus x = at-Plus (List Node) postfix_step x

pub postfix-Minus : (x : Tree) → postfix (t.Minus x) ≡ postfix x ++ Minus ∷ []
unfolding postfix
postfix-Minus x = at-Minus (List Node) postfix_step x

pub postfix-Percent : (x : Tree) → postfix (t.Percent x) ≡ postfix x ++ Percent ∷ []
unfolding postfix
postfix-Percent x = at-Percent (List Node) postfix_step x

pub postfix-Binary : (op : Op) (x y : Tree) → postfix (t.Binary op x y) ≡ postfix x ++ postfix y ++ Binary op ∷ []
unfolding postfix
postfix-Binary op x y = at-Binary (List Node) postfix_step op x y

lists_same : {X : Type 0} (f g : Tree → List X) (xs : List Tree) → AllByRecursion (λ x. f x ≡ g x) xs → flat_map f xs ≡ flat_map g xs
lists_same f g [] known = refl
lists_same f g (x ∷ xs) known = ap (λ ys. ys ++ flat_map f xs) known.0 ∙ ap (λ ys. g x ++ ys) (lists_same f g xs known.1)

-- the lists of the trees of a list, mapped
map_lists : {X : Type 0} (f : Node → X) (g : Tree → List Node) (h : Tree → List X) (xs : List Tree) → AllByRecursion (λ x. map f (g x) ≡ h x) xs → map f (flat_map g xs) ≡ flat_map h xs
map_lists f g h [] known = refl
map_lists f g h (x ∷ xs) known = map-append f (g x) (flat_map g xs) ∙ ap (λ ys. ys ++ map f (flat_map g xs)) known.0 ∙ ap (λ ys. h x ++ ys) (map_lists f g h xs known.1)

module _ (change : Reference → Reference) where
  abbrev other : Tree → Tree
  other = replaced (λ r. t.Ref (change r))

  -- the nodes of a tree whose references change are its nodes, changed
  abbrev Goes : Tree → Type 0
  Goes x = map (node_with change) (postfix x) ≡ postfix (other x)

  pub nodes_replaced : (x : Tree) → Goes x
  nodes_replaced = tree_ind Goes (record {
    number = λ n. rw (postfix-Number n, replaced-Number _ n, postfix-Number n);
    words = λ text. rw (postfix-Words text, replaced-Words _ text, postfix-Words text);
    bad = λ fault. rw (postfix-Bad fault, replaced-Bad _ fault, postfix-Bad fault);
    reference = λ r. rw (postfix-Ref r, replaced-Ref _ r, postfix-Ref (change r));
    name = λ name. rw (postfix-Name name, replaced-Name _ name, postfix-Name name);
    call = λ name args known.
        rw (postfix-Call name args, replaced-Call _ name args, postfix-Call name (map other args), map-append, length-map args other, flat_map-map postfix other args, map_lists (node_with change) postfix (λ x. postfix (other x)) args known);
    paren = λ x is. rw (postfix-Paren x, replaced-Paren _ x, postfix-Paren (other x), map-append, is);
    plus = λ x is. rw (postfix-Plus x, replaced-Plus _ x, postfix-Plus (other x), map-append, is);
    minus = λ x is. rw (postfix-Minus x, replaced-Minus _ x, postfix-Minus (other x), map-append, is);
    percent = λ x is. rw (postfix-Percent x, replaced-Percent _ x, postfix-Percent (other x), map-append, is);
    binary = λ op x y left right. rw (postfix-Binary op x y, replaced-Binary _ op x y, postfix-Binary op (other x) (other y), map-append, map-append, left, right);
  })

module _ (home : Place) where
  abbrev form_nodes : Tree → List Node
  form_nodes = relative_nodes home

  abbrev form : Tree → Tree
  form = relative home

  abbrev IsListed : Tree → Type 0
  IsListed x = form_nodes x ≡ postfix (form x)

  listed : (xs : List Tree) → AllByRecursion IsListed xs → flat_map (λ (nodes : List Node). nodes) (map form_nodes xs) ≡ flat_map postfix (map form xs)
  listed xs known = flat_map-map (λ (nodes : List Node). nodes) form_nodes xs ∙ lists_same form_nodes (λ x. postfix (form x)) xs known ∙ sym (flat_map-map postfix form xs)

  -- the nodes that are written for a tree at home are those of its relative form
  pub relative_nodes_are : (x : Tree) → IsListed x
  unfolding postfix
  relative_nodes_are = tree_ind IsListed (record {
    number = λ n. rw (at-Number _ _ n, replaced-Number _ n, postfix-Number n);
    words = λ text. rw (at-Words _ _ text, replaced-Words _ text, postfix-Words text);
    bad = λ fault. rw (at-Bad _ _ fault, replaced-Bad _ fault, postfix-Bad fault);
    reference = λ r. rw (at-Ref _ _ r, replaced-Ref _ r, postfix-Ref (relative_reference home r));
    name = λ name. rw (at-Name _ _ name, replaced-Name _ name, postfix-Name name);
    call = λ name args known. rw (at-Call _ _ name args, replaced-Call _ name args, postfix-Call name (map form args), length-map args form_nodes, length-map args form, listed args known);
    paren = λ x is. rw (at-Paren _ _ x, replaced-Paren _ x, postfix-Paren (form x), is);
    plus = λ x is. rw (at-Plus _ _ x, replaced-Plus _ x, postfix-Plus (form x), is);
    minus = λ x is. rw (at-Minus _ _ x, replaced-Minus _ x, postfix-Minus (form x), is);
    percent = λ x is. rw (at-Percent _ _ x, replaced-Percent _ x, postfix-Percent (form x), is);
    binary = λ op x y left right. rw (at-Binary _ _ op x y, replaced-Binary _ op x y, postfix-Binary op (form x) (form y), left, right);
  })

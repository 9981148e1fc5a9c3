-- Whether a formula uses one of some names, at each kind of node.
use Rattle.std.proofs.Common.{◌≡◌, ℕ, ℤ, Bool, true, false, ◌||◌, List, [], ◌∷◌, ◌++◌, map, refl, ap, ◌∙◌}
use Rattle.std.specs.List.{flat_map, list_any}
use Rattle.calc_addr.specs.References.{Reference}
use Rattle.calc_model.specs.declared.fault.Fault.{Fault}
use Rattle.calc_model.specs.declared.tree.Op.{Op}
use Rattle.calc_model.specs.declared.tree.Tree.{Tree}
use Rattle.calc_model.specs.declared.tree.Tree.TheVariants as t
use Rattle.calc_model.specs.declared.content.Content.{Content}
use Rattle.calc_model.specs.declared.content.Content.TheVariants.{Empty, Constant, Formula, Raw}
use Rattle.calc_model.specs.Books.{is_formula}
use Rattle.calc_model.specs.UsedNames.{names_in, names_step}
use Rattle.calc_model.proofs.TreeFolds as fold
use Rattle.workbook.specs.Touched.{has_name, uses_any}

module _ (names : List (List ℕ)) where
  -- the tree uses one of the names
  abbrev pub uses : Tree → Bool
  uses x = list_any (has_name names) (names_in x)

  any_of_both : {X : Type 0} (p : X → Bool) (xs ys : List X) → list_any p (xs ++ ys) ≡ (list_any p xs || list_any p ys)
  any_of_both p [] ys = refl
  any_of_both p (x ∷ xs) ys = ap (λ b. p x || b) (any_of_both p xs ys) ∙ regrouped (p x) (list_any p xs) (list_any p ys)
    where
      regrouped : (a b c : Bool) → (a || (b || c)) ≡ ((a || b) || c)
      regrouped true b c = refl
      regrouped false b c = refl

  or_nothing : (b : Bool) → (b || false) ≡ b
  or_nothing true = refl
  or_nothing false = refl

  any_of_all : (xs : List Tree) → list_any (has_name names) (flat_map (λ ns. ns) (map names_in xs)) ≡ list_any uses xs
  any_of_all [] = refl
  any_of_all (x ∷ xs) = any_of_both (has_name names) (names_in x) (flat_map (λ ns. ns) (map names_in xs)) ∙ ap (λ b. uses x || b) (any_of_all xs)

  pub uses-Number : (n : ℤ) → uses (t.Number n) ≡ false
  unfolding names_in
  uses-Number n = ap (list_any (has_name names)) (fold.at-Number _ names_step n)

  pub uses-Words : (text : List ℕ) → uses (t.Words text) ≡ false
  unfolding names_in
  uses-Words text = ap (list_any (has_name names)) (fold.at-Words _ names_step text)

  pub uses-Bad : (fault : Fault) → uses (t.Bad fault) ≡ false
  unfolding names_in
  uses-Bad fault = ap (list_any (has_name names)) (fold.at-Bad _ names_step fault)

  pub uses-Ref : (r : Reference) → uses (t.Ref r) ≡ false
  unfolding names_in
  uses-Ref r = ap (list_any (has_name names)) (fold.at-Ref _ names_step r)

  pub uses-Name : (name : List ℕ) → uses (t.Name name) ≡ has_name names name
  unfolding names_in
  uses-Name name = ap (list_any (has_name names)) (fold.at-Name _ names_step name) ∙ or_nothing (has_name names name)

  pub uses-Call : (name : List ℕ) (args : List Tree) → uses (t.Call name args) ≡ list_any uses args
  unfolding names_in
  uses-Call name args = ap (list_any (has_name names)) (fold.at-Call _ names_step name args) ∙ any_of_all args

  pub uses-Paren : (x : Tree) → uses (t.Paren x) ≡ uses x
  unfolding names_in
  uses-Paren x = ap (list_any (has_name names)) (fold.at-Paren _ names_step x)

  pub uses-Plus : (x : Tree) → uses (t.Plus x) ≡ uses x
  unfolding names_in
  uses-Plus x = ap (list_any (has_name names)) (fold.at-Plus _ names_step x)

  pub uses-Minus : (x : Tree) → uses (t.Minus x) ≡ uses x
  unfolding names_in
  uses-Minus x = ap (list_any (has_name names)) (fold.at-Minus _ names_step x)

  pub uses-Percent : (x : Tree) → uses (t.Percent x) ≡ uses x
  unfolding names_in
  uses-Percent x = ap (list_any (has_name names)) (fold.at-Percent _ names_step x)

  pub uses-Binary : (op : Op) (x y : Tree) → uses (t.Binary op x y) ≡ (uses x || uses y)
  unfolding names_in
  uses-Binary op x y = ap (list_any (has_name names)) (fold.at-Binary _ names_step op x y) ∙ any_of_both (has_name names) (names_in x) (names_in y)

pub ruleset used_names = (uses-Number, uses-Words, uses-Bad, uses-Ref, uses-Name, uses-Call, uses-Paren, uses-Plus, uses-Minus, uses-Percent, uses-Binary)

-- no formula uses one of no names
pub uses_none : (content : Content) → uses_any [] content ≡ false
uses_none Empty = refl
uses_none (Constant value) = refl
uses_none (Formula tree) = none_of (names_in tree)
  where
    none_of : (names : List (List ℕ)) → list_any (has_name []) names ≡ false
    none_of [] = refl
    none_of (name ∷ names) = none_of names
uses_none (Raw text) = refl

-- only formulas use names
pub user_is_formula : (names : List (List ℕ)) (content : Content) → uses_any names content ≡ true → is_formula content ≡ true
user_is_formula names Empty h = h
user_is_formula names (Constant value) h = h
user_is_formula names (Formula tree) h = refl
user_is_formula names (Raw text) h = h

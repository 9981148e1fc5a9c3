-- Induction over formula trees, with a case for each kind of node.
use Rattle.std.proofs.Common.{ℕ, ℤ, List, [], ◌∷◌, map, subst, sym}
use Rattle.std.specs.List.{AllByRecursion}
use Rattle.calc_addr.specs.References.{Reference}
use Rattle.calc_model.specs.declared.fault.Fault.{Fault}
use Rattle.calc_model.specs.declared.tree.Op.{Op}
use Rattle.calc_model.specs.declared.tree.Tree.{Tree, roll-Tree, map-Tree}
use Rattle.calc_model.specs.declared.tree.Tree.TheOpen.{Tree-F}
use Rattle.calc_model.specs.declared.tree.Tree.TheFolds.{ind-Tree}
use Rattle.calc_model.specs.declared.tree.Tree.TheVariants as t
use Rattle.calc_model.specs.declared.tree.Tree.TheVariants.{rolls-Number, rolls-Words, rolls-Bad, rolls-Ref, rolls-Name, rolls-Call, rolls-Paren, rolls-Plus, rolls-Minus, rolls-Percent, rolls-Binary}

pub record Cases (P : Tree → Type 0) : Type 0 where
  pub number : (n : ℤ) → P (t.Number n)
  pub words : (text : List ℕ) → P (t.Words text)
  pub bad : (fault : Fault) → P (t.Bad fault)
  pub reference : (reference : Reference) → P (t.Ref reference)
  pub name : (name : List ℕ) → P (t.Name name)
  pub call : (name : List ℕ) (args : List Tree) → AllByRecursion P args → P (t.Call name args)
  pub paren : (child : Tree) → P child → P (t.Paren child)
  pub plus : (child : Tree) → P child → P (t.Plus child)
  pub minus : (child : Tree) → P child → P (t.Minus child)
  pub percent : (child : Tree) → P child → P (t.Percent child)
  pub binary : (op : Op) (left right : Tree) → P left → P right → P (t.Binary op left right)

module _ (P : Tree → Type 0) (cases : Cases P) where
  all_known : (children : List ((x : Tree) × P x)) → AllByRecursion P (map (λ c. c.0) children)
  all_known [] = tt
  all_known (c ∷ cs) = (c.1, all_known cs)

  layer : (y : Tree-F ((x : Tree) × P x)) → P (roll-Tree (map-Tree _ _ (λ c. c.0) y))
  unfolding roll-Tree denote.Hole.Carrier.roll
  layer (Tree-F.Number n) = subst P (sym (rolls-Number n)) (cases.number n)
  layer (Tree-F.Words text) = subst P (sym (rolls-Words text)) (cases.words text)
  layer (Tree-F.Bad fault) = subst P (sym (rolls-Bad fault)) (cases.bad fault)
  layer (Tree-F.Ref reference) = subst P (sym (rolls-Ref reference)) (cases.reference reference)
  layer (Tree-F.Name name) = subst P (sym (rolls-Name name)) (cases.name name)
  layer (Tree-F.Call name args) = subst P (sym (rolls-Call name (map (λ c. c.0) args))) (cases.call name (map (λ c. c.0) args) (all_known args))
  layer (Tree-F.Paren child) = subst P (sym (rolls-Paren child.0)) (cases.paren child.0 child.1)
  layer (Tree-F.Plus child) = subst P (sym (rolls-Plus child.0)) (cases.plus child.0 child.1)
  layer (Tree-F.Minus child) = subst P (sym (rolls-Minus child.0)) (cases.minus child.0 child.1)
  layer (Tree-F.Percent child) = subst P (sym (rolls-Percent child.0)) (cases.percent child.0 child.1)
  layer (Tree-F.Binary op left right) = subst P (sym (rolls-Binary op left.0 right.0)) (cases.binary op left.0 right.0 left.1 right.1)

  -- what holds of each node where it holds of its children holds of every tree
  pub tree_ind : (x : Tree) → P x
  tree_ind = ind-Tree P (λ x y is. subst (λ z. P (roll-Tree z)) is (layer y))

-- A fold over a tree at each kind of node: what the step gives, from the folds of the children.
use Rattle.std.proofs.Common.{◌≡◌, ℕ, ℤ, List, map, ap, sym, ◌∙◌}
use Rattle.calc_addr.specs.References.{Reference}
use Rattle.calc_model.specs.declared.fault.Fault.{Fault}
use Rattle.calc_model.specs.declared.tree.Op.{Op}
use Rattle.calc_model.specs.declared.tree.Tree.{Tree}
use Rattle.calc_model.specs.declared.tree.Tree.TheOpen.{Tree-F}
use Rattle.calc_model.specs.declared.tree.Tree.TheFolds.{fold-Tree, fold-roll-Tree}
use Rattle.calc_model.specs.declared.tree.Tree.TheVariants as t
use Rattle.calc_model.specs.declared.tree.Tree.TheVariants.{rolls-Number, rolls-Words, rolls-Bad, rolls-Ref, rolls-Name, rolls-Call, rolls-Paren, rolls-Plus, rolls-Minus, rolls-Percent, rolls-Binary}

module _ (A : Type 0) (step : Tree-F A → A) where
  pub at-Number : (n : ℤ) → fold-Tree A step (t.Number n) ≡ step (Tree-F.Number n)
  at-Number n = ap (fold-Tree A step) (sym (rolls-Number n)) ∙ fold-roll-Tree A step (Tree-F.Number n)

  pub at-Words : (text : List ℕ) → fold-Tree A step (t.Words text) ≡ step (Tree-F.Words text)
  at-Words text = ap (fold-Tree A step) (sym (rolls-Words text)) ∙ fold-roll-Tree A step (Tree-F.Words text)

  pub at-Bad : (fault : Fault) → fold-Tree A step (t.Bad fault) ≡ step (Tree-F.Bad fault)
  at-Bad fault = ap (fold-Tree A step) (sym (rolls-Bad fault)) ∙ fold-roll-Tree A step (Tree-F.Bad fault)

  pub at-Ref : (reference : Reference) → fold-Tree A step (t.Ref reference) ≡ step (Tree-F.Ref reference)
  at-Ref reference = ap (fold-Tree A step) (sym (rolls-Ref reference)) ∙ fold-roll-Tree A step (Tree-F.Ref reference)

  pub at-Name : (name : List ℕ) → fold-Tree A step (t.Name name) ≡ step (Tree-F.Name name)
  at-Name name = ap (fold-Tree A step) (sym (rolls-Name name)) ∙ fold-roll-Tree A step (Tree-F.Name name)

  pub at-Call : (name : List ℕ) (args : List Tree) → fold-Tree A step (t.Call name args) ≡ step (Tree-F.Call name (map (fold-Tree A step) args))
  at-Call name args = ap (fold-Tree A step) (sym (rolls-Call name args)) ∙ fold-roll-Tree A step (Tree-F.Call name args)

  pub at-Paren : (child : Tree) → fold-Tree A step (t.Paren child) ≡ step (Tree-F.Paren (fold-Tree A step child))
  at-Paren child = ap (fold-Tree A step) (sym (rolls-Paren child)) ∙ fold-roll-Tree A step (Tree-F.Paren child)

  pub at-Plus : (child : Tree) → fold-Tree A step (t.Plus child) ≡ step (Tree-F.Plus (fold-Tree A step child))
  at-Plus child = ap (fold-Tree A step) (sym (rolls-Plus child)) ∙ fold-roll-Tree A step (Tree-F.Plus child)

  pub at-Minus : (child : Tree) → fold-Tree A step (t.Minus child) ≡ step (Tree-F.Minus (fold-Tree A step child))
  at-Minus child = ap (fold-Tree A step) (sym (rolls-Minus child)) ∙ fold-roll-Tree A step (Tree-F.Minus child)

  pub at-Percent : (child : Tree) → fold-Tree A step (t.Percent child) ≡ step (Tree-F.Percent (fold-Tree A step child))
  at-Percent child = ap (fold-Tree A step) (sym (rolls-Percent child)) ∙ fold-roll-Tree A step (Tree-F.Percent child)

  pub at-Binary : (op : Op) (left right : Tree) → fold-Tree A step (t.Binary op left right) ≡ step (Tree-F.Binary op (fold-Tree A step left) (fold-Tree A step right))
  at-Binary op left right = ap (fold-Tree A step) (sym (rolls-Binary op left right)) ∙ fold-roll-Tree A step (Tree-F.Binary op left right)

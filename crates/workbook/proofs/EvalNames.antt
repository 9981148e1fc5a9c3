-- Formulas give the same by other names, where those differ in none that counts: none that the formula uses, or none
-- whose area it reads.
use Rattle.std.proofs.Common.{◌≡◌, ℕ, Bool, false, List, [], ◌∷◌, ◌++◌, map, refl, sym, ap, ◌∙◌}
use Rattle.std.specs.List.{AllByRecursion, flat_map, list_any}
use Rattle.calc_addr.specs.Places.{Place}
use Rattle.calc_model.specs.declared.looked.Looked.{Looked}
use Rattle.calc_model.specs.declared.looked.Looked.TheVariants.{Absent, Gone, At}
use Rattle.calc_model.specs.declared.tree.Op.{Op}
use Rattle.calc_model.specs.declared.tree.Tree.{Tree}
use Rattle.calc_model.specs.declared.tree.Tree.TheOpen.{Tree-F}
use Rattle.calc_model.specs.declared.tree.Tree.TheFolds.{fold-Tree}
use Rattle.calc_model.specs.declared.tree.Tree.TheVariants as t
use Rattle.calc_model.specs.Eval.{meaning, meaning_of_name, meaning_step}
use Rattle.calc_model.specs.Functions.{function_value}
use Rattle.calc_model.specs.Meanings.{Meaning, scalar_alone}
use Rattle.calc_model.specs.Operators.{binary, hundredth, negated}
use Rattle.calc_model.specs.Reads.{Names}
use Rattle.calc_model.specs.Scalars.{CellValues}
use Rattle.calc_model.proofs.ShiftedReads.{none_of_both}
use Rattle.calc_model.proofs.TreeFolds.{at-Number, at-Words, at-Bad, at-Ref, at-Name, at-Call, at-Paren, at-Plus, at-Minus, at-Percent, at-Binary}
use Rattle.calc_model.proofs.TreeInduction.{tree_ind}

-- the parts of a tree are those of its children
pub record Gathers (X : Type 0) (step : Tree-F (List X) → List X) : Type 0 where
  pub call : (name : List ℕ) (args : List (List X)) → step (Tree-F.Call name args) ≡ flat_map (λ parts. parts) args
  pub paren : (child : List X) → step (Tree-F.Paren child) ≡ child
  pub plus : (child : List X) → step (Tree-F.Plus child) ≡ child
  pub minus : (child : List X) → step (Tree-F.Minus child) ≡ child
  pub percent : (child : List X) → step (Tree-F.Percent child) ≡ child
  pub joins : (op : Op) (left right : List X) → step (Tree-F.Binary op left right) ≡ left ++ right

module _ (home : Place) (before after : Names) (v : CellValues) (X : Type 0) (test : X → Bool) (step : Tree-F (List X) → List X) (gathers : Gathers X step) (same : (name : List ℕ) → list_any test (step (Tree-F.Name name)) ≡ false → after name ≡ before name) where
  abbrev parts : Tree → List X
  parts = fold-Tree (List X) step

  abbrev MeansSame : Tree → Type 0
  MeansSame x = list_any test (parts x) ≡ false → meaning home after v x ≡ meaning home before v x

  children_mean : (xs : List Tree) → AllByRecursion MeansSame xs → list_any test (flat_map (λ parts. parts) (map parts xs)) ≡ false → map (meaning home after v) xs ≡ map (meaning home before v) xs
  children_mean [] known h = refl
  children_mean (x ∷ xs) known h =
      let each = none_of_both test (parts x) (flat_map (λ parts. parts) (map parts xs)) h in
      ap (λ m. m ∷ map (meaning home after v) xs) (known.0 each.0)
      ∙ ap (λ ms. meaning home before v x ∷ ms) (children_mean xs known.1 each.1)

  child_means : (x y : Tree) (f : Meaning → Meaning) → parts y ≡ parts x → meaning home after v y ≡ f (meaning home after v x) → meaning home before v y ≡ f (meaning home before v x) → MeansSame x → MeansSame y
  child_means x y f of_child now was known h = now ∙ ap f (known (ap (list_any test) (sym of_child) ∙ h)) ∙ sym was

  abbrev new : Tree-F Meaning → Meaning
  new = meaning_step home after v

  abbrev old : Tree-F Meaning → Meaning
  old = meaning_step home before v

  either_names : (looked : Looked) → meaning_of_name home after v looked ≡ meaning_of_name home before v looked
  either_names Absent = refl
  either_names Gone = refl
  either_names (At area) = refl

  pub means_same : (x : Tree) → MeansSame x
  means_same = tree_ind MeansSame (record {
    number = λ n _. at-Number _ new n ∙ sym (at-Number _ old n);
    words = λ text _. at-Words _ new text ∙ sym (at-Words _ old text);
    bad = λ fault _. at-Bad _ new fault ∙ sym (at-Bad _ old fault);
    reference = λ r _. at-Ref _ new r ∙ sym (at-Ref _ old r);
    name = λ name h.
        at-Name _ new name
        ∙ either_names (after name)
        ∙ ap (meaning_of_name home before v) (same name (ap (list_any test) (sym (at-Name _ step name)) ∙ h))
        ∙ sym (at-Name _ old name);
    call = λ name args known h.
        at-Call _ new name args
        ∙ ap (λ ms. scalar_alone (function_value home name ms)) (children_mean args known (ap (list_any test) (sym (at-Call _ step name args ∙ gathers.call name (map parts args))) ∙ h))
        ∙ sym (at-Call _ old name args);
    paren = λ x. child_means x (t.Paren x) (λ m. m) (at-Paren _ step x ∙ gathers.paren (parts x)) (at-Paren _ new x) (at-Paren _ old x);
    plus = λ x. child_means x (t.Plus x) (λ m. scalar_alone m.scalar) (at-Plus _ step x ∙ gathers.plus (parts x)) (at-Plus _ new x) (at-Plus _ old x);
    minus = λ x. child_means x (t.Minus x) (λ m. scalar_alone (negated m.scalar)) (at-Minus _ step x ∙ gathers.minus (parts x)) (at-Minus _ new x) (at-Minus _ old x);
    percent = λ x. child_means x (t.Percent x) (λ m. scalar_alone (hundredth m.scalar)) (at-Percent _ step x ∙ gathers.percent (parts x)) (at-Percent _ new x) (at-Percent _ old x);
    binary = λ op x y left right h.
        let each = none_of_both test (parts x) (parts y) (ap (list_any test) (sym (at-Binary _ step op x y ∙ gathers.joins op (parts x) (parts y))) ∙ h) in
        at-Binary _ new op x y
        ∙ ap (λ (m : Meaning). scalar_alone (binary op m.scalar (meaning home after v y).scalar)) (left each.0)
        ∙ ap (λ (m : Meaning). scalar_alone (binary op (meaning home before v x).scalar m.scalar)) (right each.1)
        ∙ sym (at-Binary _ old op x y);
  })

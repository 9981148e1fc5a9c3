-- What a node makes of a stack of operands.
use Rattle.std.proofs.Common.{◌≡◌, ℕ, ◌-◌, ◌<◌, ◌≤◌, take, List, [], ◌∷◌, ◌++◌, length, drop, reverse, ap, sym, subst, refl, cond, nat_le, true, false, ◌∙◌, arith, Some, None}
use Rattle.std.specs.Prelude.{IsSome}
use Rattle.std.proofs.lemmas.Bool.{le-leb, leb-true}
use Rattle.calc_addr.specs.Places.{Place}
use Rattle.calc_model.specs.Meanings.{Meaning, scalar_alone}
use Rattle.calc_model.specs.Functions.{function_value}
use Rattle.calc_model.specs.Operators.{binary}
use Rattle.calc_model.specs.Reads.{Names}
use Rattle.calc_model.specs.Scalars.{CellValues}
use Rattle.calc_model.specs.declared.tree.Op.{Op}
use Rattle.formula_code.specs.declared.node.Node.{Node}
use Rattle.formula_code.specs.declared.node.Node.TheVariants as node
use Rattle.cell_interpreter.specs.declared.operand.Operand.{Operand}
use Rattle.cell_interpreter.specs.declared.operand.Operand.TheVariants as operand
use Rattle.cell_interpreter.specs.declared.scalar.Scalar.{Scalar}
use Rattle.cell_interpreter.specs.Machine.{Acts, Calls, CanAct, Meanings, Pops, acted, meaning_of, stacked}
use Rattle.cell_interpreter.specs.Operands.{value_of}
use Rattle.cell_interpreter.proofs.Stacks.{length-stacked, stacked-push, stacked-take}

module _ (home : Place) (names : Names) (values : CellValues) where
  -- a node that only pushes
  pub pushes : (node : Node) (old new : List Operand) (operand : Operand) → new ≡ old ++ operand ∷ [] → ((stack : Meanings) → acted home names values node stack ≡ Some (meaning_of home values operand ∷ stack)) → Acts home names values node old new
  pushes node old new operand e acts =
      acts (stacked home values old) ∙ ap Some (sym (ap (stacked home values) e ∙ stacked-push home values old operand))

  -- a node that makes a value of the top
  pub replaces_top : (node : Node) (old mid new : List Operand) (scalar made : Scalar) → Pops home values old mid scalar → new ≡ mid ++ operand.Scalar made ∷ [] → ((top : Meaning) (stack : Meanings) → value_of scalar ≡ top.scalar → acted home names values node (top ∷ stack) ≡ Some (scalar_alone (value_of made) ∷ stack)) → Acts home names values node old new
  replaces_top node old mid new scalar made pops e acts =
      ap (acted home names values node) pops.taken
      ∙ acts pops.meaning (stacked home values mid) pops.value
      ∙ ap Some (sym (ap (stacked home values) e ∙ stacked-push home values mid (operand.Scalar made)))

  -- an infix operator
  pub replaces_two : (op : Op) (old mid low new : List Operand) (right left made : Scalar) → Pops home values old mid right → Pops home values mid low left → new ≡ low ++ operand.Scalar made ∷ [] → value_of made ≡ binary op (value_of left) (value_of right) → Acts home names values (node.Binary op) old new
  replaces_two op old mid low new right left made first second e value =
      ap (acted home names values (node.Binary op)) (first.taken ∙ ap (λ stack. first.meaning ∷ stack) second.taken)
      ∙ ap (λ v. Some (scalar_alone v ∷ stacked home values low)) (ap (λ v. binary op v first.meaning.scalar) (sym second.value) ∙ ap (binary op (value_of left)) (sym first.value) ∙ sym value)
      ∙ ap Some (sym (ap (stacked home values) e ∙ stacked-push home values low (operand.Scalar made)))

  nothing : IsSome {T = Meanings} None → ⊥
  nothing none = cc

  -- a node that takes an operand finds one
  pub needs_one : (node : Node) (operands : List Operand) → acted home names values node [] ≡ None → CanAct home names values node operands → 0 < length operands
  unfolding stacked
  needs_one node [] none can = absurd (nothing (subst IsSome none can))
  needs_one node (o ∷ os) none can = omega arith

  pub needs_two : (op : Op) (operands : List Operand) → CanAct home names values (node.Binary op) operands → 1 < length operands
  unfolding stacked
  needs_two op [] can = absurd (nothing can)
  needs_two op (o ∷ []) can = absurd (nothing can)
  needs_two op (o ∷ p ∷ os) can = omega arith

  -- a call finds its parameters
  pub needs_args : (name : List ℕ) (args : ℕ) (operands : List Operand) → CanAct home names values (node.Call name args) operands → args ≤ length operands
  needs_args name args operands can =
      let stack = stacked home values operands in
      let size : length stack ≡ length operands = length-stacked home values operands in
      let there : nat_le args (length stack) ≡ true =
      elim (nat_le args (length stack)) as (λ b. IsSome (cond b (Some (scalar_alone (function_value home name (reverse (take args stack))) ∷ drop args stack)) None) → b ≡ true) [
        | true ↦ λ _. refl
        | false ↦ λ none. none
      ] can in
      omega (arith, leb-true _ _ there, size)

  -- a call takes its parameters, and leaves its value
  pub calls : (name : List ℕ) (args : ℕ) (old new : List Operand) → args ≤ length old → Calls home values name args old new → Acts home names values (node.Call name args) old new
  calls name args old new fits called =
      let stack = stacked home values old in
      let kept = take (length old - args) old in
      let there : nat_le args (length stack) ≡ true = le-leb _ _ (omega (arith, length-stacked home values old)) in
      ap (λ b. cond b (Some (scalar_alone (function_value home name (reverse (take args stack))) ∷ drop args stack)) None) there
      ∙ ap (λ v. Some (scalar_alone v ∷ drop args stack)) (sym called.value)
      ∙ ap (λ rest. Some (scalar_alone (value_of called.scalar) ∷ rest)) (sym (stacked-take home values args old fits))
      ∙ ap Some (sym (ap (stacked home values) called.put ∙ stacked-push home values kept (operand.Scalar called.scalar)))

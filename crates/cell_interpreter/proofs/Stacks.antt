-- What a stack of operands means when one is pushed or taken.
use Rattle.std.proofs.Common.{◌≡◌, ℕ, suc, ◌+◌, ◌-◌, ◌≤◌, List, [], ◌∷◌, ◌++◌, length, take, drop, ap, sym, refl, ◌∙◌, arith, length-append, fold}
use Rattle.std.proofs.lemmas.List.Sums.{fold_push, fold-append}
use Rattle.std.proofs.lemmas.List.{drop-drop, length-drop, take-append-drop}
use Rattle.calc_addr.specs.Places.{Place}
use Rattle.calc_model.specs.Scalars.{CellValues}
use Rattle.cell_interpreter.specs.declared.operand.Operand.{Operand}
use Rattle.cell_interpreter.specs.declared.scalar.Scalar.{Scalar}
use Rattle.cell_interpreter.specs.Machine.{Meanings, Pops, meaning_of, stacked}
use Rattle.cell_interpreter.specs.Operands.{value_of}

module _ (home : Place) (values : CellValues) where
  -- a stack under the meanings of operands that are pushed
  abbrev pushed : Meanings → List Operand → Meanings
  pushed stack operands = fold (λ meanings o. meaning_of home values o ∷ meanings) stack operands

  length-pushed : (stack : Meanings) (operands : List Operand) → length (pushed stack operands) ≡ length stack + length operands
  length-pushed stack [] = omega arith
  length-pushed stack (o ∷ os) = length-pushed (meaning_of home values o ∷ stack) os ∙ omega arith

  drop-pushed : (stack : Meanings) (operands : List Operand) → drop (length operands) (pushed stack operands) ≡ stack
  drop-pushed stack [] = refl
  drop-pushed stack (o ∷ os) =
      let e : suc (length os) ≡ length os + 1 = omega arith in
      ap (λ n. drop n (pushed (meaning_of home values o ∷ stack) os)) e
      ∙ sym (drop-drop 1 (length os) (pushed (meaning_of home values o ∷ stack) os))
      ∙ ap (drop 1) (drop-pushed (meaning_of home values o ∷ stack) os)

  pub stacked-push : (operands : List Operand) (operand : Operand) → stacked home values (operands ++ operand ∷ []) ≡ meaning_of home values operand ∷ stacked home values operands
  unfolding stacked
  stacked-push operands operand = fold_push (λ meanings o. meaning_of home values o ∷ meanings) [] operands operand

  pub pops_last : (old new : List Operand) (operand : Operand) (scalar : Scalar) → old ≡ new ++ operand ∷ [] → value_of scalar ≡ (meaning_of home values operand).scalar → Pops home values old new scalar
  pops_last old new operand scalar e value = record {
    meaning = meaning_of home values operand;
    taken = ap (stacked home values) e ∙ stacked-push new operand;
    shorter = omega (arith, ap length e ∙ length-append new (operand ∷ []));
    value = value;
  }

  -- as many meanings as operands
  pub length-stacked : (operands : List Operand) → length (stacked home values operands) ≡ length operands
  unfolding stacked
  length-stacked operands = length-pushed [] operands ∙ omega arith

  -- without the last operands, what they mean is gone from the top
  pub stacked-take : (count : ℕ) (operands : List Operand) → count ≤ length operands → stacked home values (take (length operands - count) operands) ≡ drop count (stacked home values operands)
  unfolding stacked
  stacked-take count operands fits =
      let kept = take (length operands - count) operands in
      let gone = drop (length operands - count) operands in
      let size : length gone ≡ count = length-drop (length operands - count) operands ∙ omega arith in
      sym (ap (λ all. drop count (pushed [] all)) (sym (take-append-drop (length operands - count) operands)) ∙ ap (drop count) (fold-append _ _ kept gone) ∙ ap (λ n. drop n (pushed (pushed [] kept) gone)) (sym size) ∙ drop-pushed (pushed [] kept) gone)

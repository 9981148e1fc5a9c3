-- Parameters of a call that are taken from the stack one by one.
use Rattle.std.proofs.Common.{◌≡◌, ℕ, ◌+◌, ◌-◌, List, [], ◌∷◌, ◌++◌, drop, length, map, reverse, take, ap, append_assoc, arith, refl, sym, ◌∙◌, length-append}
use Rattle.std.proofs.lemmas.List.{length-map, length-reverse, map-append, reverse-append}
use Rattle.std.proofs.Math.Seq.{take-append_seam}
use Rattle.calc_addr.specs.Places.{Place}
use Rattle.calc_model.specs.Arguments.{meaning_of as meaning_of_arg}
use Rattle.calc_model.specs.Scalars.{CellValues}
use Rattle.calc_model.specs.declared.arg.Arg.{Arg}
use Rattle.cell_interpreter.specs.declared.operand.Operand.{Operand}
use Rattle.cell_interpreter.specs.Machine.{IsPassedAs, TakesArgs, stacked}
use Rattle.cell_interpreter.proofs.Stacks.{stacked-push}

-- so many operands were taken from the top of the stack, the top first, and these are the parameters that they are
pub record Passed (old now : List Operand) (args : List Arg) (count : ℕ) : Type 0 where
  pub taken : List Operand
  pub split : old ≡ now ++ taken
  pub size : length taken ≡ count
  pub few : length args ≡ count
  pub means : (home : Place) (values : CellValues) → map (meaning_of_arg home values) args ++ stacked home values now ≡ stacked home values old

-- one more
pub one_passed : (old now next : List Operand) (args : List Arg) (count : ℕ) (operand : Operand) (arg : Arg) → Passed old now args count → now ≡ next ++ operand ∷ [] → IsPassedAs operand arg → Passed old next (args ++ arg ∷ []) (count + 1)
one_passed old now next args count operand arg passed popped same = record {
  taken = operand ∷ passed.taken;
  split = passed.split ∙ ap (λ o. o ++ passed.taken) popped ∙ append_assoc next (operand ∷ []) passed.taken;
  size = omega (arith, passed.size);
  few = length-append args (arg ∷ []) ∙ omega (arith, passed.few);
  means = λ home values.
      let m = meaning_of_arg home values in
      ap (λ ms. ms ++ stacked home values next) (map-append m args (arg ∷ []))
      ∙ append_assoc (map m args) (m arg ∷ []) (stacked home values next)
      ∙ ap (λ x. map m args ++ (x ∷ stacked home values next)) (same home values)
      ∙ ap (λ stack. map m args ++ stack) (sym (ap (stacked home values) popped ∙ stacked-push home values next operand))
      ∙ passed.means home values;
}

map_reversed : {A B : Type 0} (f : A → B) (xs : List A) → map f (reverse xs) ≡ reverse (map f xs)
map_reversed f [] = refl
map_reversed f (x ∷ xs) =
    ap (map f) (reverse-append (x ∷ []) xs)
    ∙ map-append f (reverse xs) (x ∷ [])
    ∙ ap (λ ys. ys ++ f x ∷ []) (map_reversed f xs)
    ∙ sym (reverse-append (f x ∷ []) (map f xs))

-- all of them, which are reversed
pub all_passed : (old now : List Operand) (args : List Arg) (count : ℕ) → Passed old now args count → TakesArgs count old now (reverse args)
all_passed old now args count passed = (
  sym (ap (λ os. take (length os - count) os) passed.split ∙ ap (λ n. take n (now ++ passed.taken)) (omega (arith, length-append now passed.taken, passed.size)) ∙ take-append_seam now passed.taken),
  λ home values.
      let m = meaning_of_arg home values in
      map_reversed m args
      ∙ ap reverse (sym (ap (take count) (sym (passed.means home values)) ∙ ap (λ n. take n (map m args ++ stacked home values now)) (sym (length-map args m ∙ passed.few)) ∙ take-append_seam (map m args) (stacked home values now))),
)

-- what is reversed in place is the list reversed
pub reversed_in_place : (args reversed : List Arg) → reversed ≡ reverse args → take (length args) (reversed ++ drop (length reversed) args) ≡ reverse args
reversed_in_place args reversed e =
    ap (λ n. take n (reversed ++ drop (length reversed) args)) (sym (ap length e ∙ length-reverse args))
    ∙ take-append_seam reversed (drop (length reversed) args)
    ∙ e

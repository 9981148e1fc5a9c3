-- Running the nodes of a formula leaves its meaning on the stack.
use Rattle.std.proofs.Common.{◌≡◌, ℕ, ◌+◌, ◌<◌, ◌≤◌, List, [], ◌∷◌, ◌++◌, length, take, drop, reverse, map, nat_le, true, cond, ap, sym, subst, refl, ◌∙◌, arith, append_assoc, Some, None}
use Rattle.std.specs.List.{AllByRecursion, flat_map}
use Rattle.std.specs.Prelude.{IsSome}
use Rattle.std.specs.Option.{option_and_then}
use Rattle.std.proofs.lemmas.Bool.{le-leb}
use Rattle.std.proofs.lemmas.List.{append-nil, length-append, reverse-append, length-map, length-reverse, reverse-reverse}
use Rattle.std.proofs.Math.Seq.{take-append_seam, drop-append_seam}
use Rattle.calc_addr.specs.Places.{Place}
use Rattle.calc_model.specs.declared.tree.Tree.{Tree}
use Rattle.calc_model.specs.Meanings.{Meaning, scalar_alone}
use Rattle.calc_model.specs.Functions.{function_value}
use Rattle.calc_model.specs.Eval.{meaning, meaning_step}
use Rattle.calc_model.specs.Reads.{Names}
use Rattle.calc_model.specs.Scalars.{CellValues}
use Rattle.calc_model.proofs.TreeFolds as fold
use Rattle.calc_model.proofs.TreeInduction.{Cases, tree_ind}
use Rattle.formula_code.specs.declared.node.Node.{Node}
use Rattle.formula_code.specs.declared.node.Node.TheVariants as node
use Rattle.formula_code.specs.Nodes.{postfix, postfix_step}
use Rattle.cell_interpreter.specs.Machine.{Acts, CanAct, Meanings, Pops, acted, run, stacked}
use Rattle.cell_interpreter.specs.declared.operand.Operand.{Operand}
use Rattle.cell_interpreter.specs.declared.scalar.Scalar.{Scalar}
use Rattle.cell_interpreter.specs.Operands.{value_of}
use Rattle.cell_interpreter.specs.Runs.{AreOfTree, IsEvaluated}
use Rattle.cell_interpreter.proofs.Stacks.{length-stacked}

reversed_cons : (m : Meaning) (ms stack : Meanings) → reverse (m ∷ ms) ++ stack ≡ reverse ms ++ (m ∷ stack)
reversed_cons m ms stack = ap (λ r. r ++ stack) (reverse-append (m ∷ []) ms) ∙ append_assoc (reverse ms) (m ∷ []) stack

only : {A : Type 0} {a b : A} → Some a ≡ Some b → a ≡ b
only e = cc

first : {A : Type 0} {a b : A} {xs ys : List A} → a ∷ xs ≡ b ∷ ys → a ≡ b
first e = cc

nothing_stacked : (home : Place) (values : CellValues) → stacked home values [] ≡ []
unfolding stacked
nothing_stacked home values = refl

absent : {A : Type 0} (a : A) → None ≡ Some a → ⊥
absent a e = cc

joined_lists : {A B : Type 0} (f : A → List B) (xs : List A) → flat_map (λ ys. ys) (map f xs) ≡ flat_map f xs
joined_lists f [] = refl
joined_lists f (x ∷ xs) = ap (λ rest. f x ++ rest) (joined_lists f xs)

-- the nodes of a child stand before the node itself
behind : (xs : List Node) (node : Node) (rest : List Node) → (xs ++ node ∷ []) ++ rest ≡ xs ++ (node ∷ rest)
behind xs node rest = append_assoc xs (node ∷ []) rest

module _ (home : Place) (names : Names) (values : CellValues) where
  abbrev means : Tree → Meaning
  means = meaning home names values

  abbrev by : Meanings → Meanings
  by stack = stack

  -- the nodes of a tree leave its meaning on the stack, whatever comes behind them
  Claim : Tree → Type 0
  Claim x = (rest : List Node) (stack : Meanings) → run home names values (postfix x ++ rest) stack ≡ run home names values rest (means x ∷ stack)

  -- the nodes of trees leave their meanings
  abbrev AllClaim : List Tree → Type 0
  AllClaim xs = (rest : List Node) (stack : Meanings) → run home names values (flat_map postfix xs ++ rest) stack ≡ run home names values rest (reverse (map means xs) ++ stack)

  all_run : (xs : List Tree) → AllByRecursion Claim xs → AllClaim xs
  unfolding Claim
  all_run [] all rest stack = refl
  all_run (x ∷ xs) all rest stack =
      ap (λ nodes. run home names values nodes stack) (append_assoc (postfix x) (flat_map postfix xs) rest)
      ∙ all.0 (flat_map postfix xs ++ rest) stack
      ∙ all_run xs all.1 rest (means x ∷ stack)
      ∙ ap (run home names values rest) (sym (reversed_cons (means x) (map means xs) stack))

  -- a call finds the meanings of its parameters on the stack
  call_acted : (name : List ℕ) (args : List Tree) (stack : Meanings) → acted home names values (node.Call name (length args)) (reverse (map means args) ++ stack) ≡ Some (scalar_alone (function_value home name (map means args)) ∷ stack)
  call_acted name args stack =
      let ms = map means args in
      let size : length (reverse ms) ≡ length args = length-reverse ms ∙ length-map args means in
      let there : nat_le (length args) (length (reverse ms ++ stack)) ≡ true = le-leb _ _ (omega (arith, size, length-append (reverse ms) stack)) in
      let front : take (length args) (reverse ms ++ stack) ≡ reverse ms = ap (λ n. take n (reverse ms ++ stack)) (sym size) ∙ take-append_seam (reverse ms) stack in
      let back : drop (length args) (reverse ms ++ stack) ≡ stack = ap (λ n. drop n (reverse ms ++ stack)) (sym size) ∙ drop-append_seam (reverse ms) stack in
      ap (λ b. cond b (Some (scalar_alone (function_value home name (reverse (take (length args) (reverse ms ++ stack)))) ∷ drop (length args) (reverse ms ++ stack))) None) there
      ∙ ap (λ xs. Some (scalar_alone (function_value home name (reverse xs)) ∷ drop (length args) (reverse ms ++ stack))) front
      ∙ ap (λ xs. Some (scalar_alone (function_value home name xs) ∷ drop (length args) (reverse ms ++ stack))) (reverse-reverse ms)
      ∙ ap (λ xs. Some (scalar_alone (function_value home name ms) ∷ xs)) back

  cases : Cases Claim
  unfolding Claim run postfix
  cases = record {
    number = λ n rest stack. ap (λ nodes. run home names values (nodes ++ rest) stack) (fold.at-Number (List Node) postfix_step n) ∙ ap (λ m. run home names values rest (m ∷ stack)) (sym (fold.at-Number Meaning (meaning_step home names values) n));
    words = λ text rest stack. ap (λ nodes. run home names values (nodes ++ rest) stack) (fold.at-Words (List Node) postfix_step text) ∙ ap (λ m. run home names values rest (m ∷ stack)) (sym (fold.at-Words Meaning (meaning_step home names values) text));
    bad = λ fault rest stack. ap (λ nodes. run home names values (nodes ++ rest) stack) (fold.at-Bad (List Node) postfix_step fault) ∙ ap (λ m. run home names values rest (m ∷ stack)) (sym (fold.at-Bad Meaning (meaning_step home names values) fault));
    reference = λ r rest stack. ap (λ nodes. run home names values (nodes ++ rest) stack) (fold.at-Ref (List Node) postfix_step r) ∙ ap (λ m. run home names values rest (m ∷ stack)) (sym (fold.at-Ref Meaning (meaning_step home names values) r));
    name = λ name rest stack. ap (λ nodes. run home names values (nodes ++ rest) stack) (fold.at-Name (List Node) postfix_step name) ∙ ap (λ m. run home names values rest (m ∷ stack)) (sym (fold.at-Name Meaning (meaning_step home names values) name));
    call = λ name args all rest stack.
        ap (λ nodes. run home names values (nodes ++ rest) stack) (fold.at-Call (List Node) postfix_step name args)
        ∙ ap (λ nodes. run home names values ((nodes ++ node.Call name (length (map postfix args)) ∷ []) ++ rest) stack) (joined_lists postfix args)
        ∙ ap (λ count. run home names values ((flat_map postfix args ++ node.Call name count ∷ []) ++ rest) stack) (length-map args postfix)
        ∙ ap (λ nodes. run home names values nodes stack) (behind (flat_map postfix args) (node.Call name (length args)) rest)
        ∙ all_run args all (node.Call name (length args) ∷ rest) stack
        ∙ ap (option_and_then (run home names values rest)) (call_acted name args stack)
        ∙ ap (λ m. run home names values rest (m ∷ stack)) (sym (fold.at-Call Meaning (meaning_step home names values) name args));
    paren = λ x is rest stack.
        ap (λ nodes. run home names values (nodes ++ rest) stack) (fold.at-Paren (List Node) postfix_step x)
        ∙ ap (λ nodes. run home names values nodes stack) (behind (postfix x) node.Paren rest)
        ∙ is (node.Paren ∷ rest) stack
        ∙ ap (λ m. run home names values rest (m ∷ stack)) (sym (fold.at-Paren Meaning (meaning_step home names values) x));
    plus = λ x is rest stack.
        ap (λ nodes. run home names values (nodes ++ rest) stack) (fold.at-Plus (List Node) postfix_step x)
        ∙ ap (λ nodes. run home names values nodes stack) (behind (postfix x) node.Plus rest)
        ∙ is (node.Plus ∷ rest) stack
        ∙ ap (λ m. run home names values rest (m ∷ stack)) (sym (fold.at-Plus Meaning (meaning_step home names values) x));
    minus = λ x is rest stack.
        ap (λ nodes. run home names values (nodes ++ rest) stack) (fold.at-Minus (List Node) postfix_step x)
        ∙ ap (λ nodes. run home names values nodes stack) (behind (postfix x) node.Minus rest)
        ∙ is (node.Minus ∷ rest) stack
        ∙ ap (λ m. run home names values rest (m ∷ stack)) (sym (fold.at-Minus Meaning (meaning_step home names values) x));
    percent = λ x is rest stack.
        ap (λ nodes. run home names values (nodes ++ rest) stack) (fold.at-Percent (List Node) postfix_step x)
        ∙ ap (λ nodes. run home names values nodes stack) (behind (postfix x) node.Percent rest)
        ∙ is (node.Percent ∷ rest) stack
        ∙ ap (λ m. run home names values rest (m ∷ stack)) (sym (fold.at-Percent Meaning (meaning_step home names values) x));
    binary = λ op x y is_x is_y rest stack.
        ap (λ nodes. run home names values (nodes ++ rest) stack) (fold.at-Binary (List Node) postfix_step op x y)
        ∙ ap (λ nodes. run home names values nodes stack) (behind (postfix x ++ postfix y) (node.Binary op) rest ∙ append_assoc (postfix x) (postfix y) (node.Binary op ∷ rest))
        ∙ is_x (postfix y ++ (node.Binary op ∷ rest)) stack
        ∙ is_y (node.Binary op ∷ rest) (means x ∷ stack)
        ∙ ap (λ m. run home names values rest (m ∷ stack)) (sym (fold.at-Binary Meaning (meaning_step home names values) op x y));
  }

  pub runs : (x : Tree) (rest : List Node) (stack : Meanings) → run home names values (postfix x ++ rest) stack ≡ run home names values rest (means x ∷ stack)
  unfolding Claim
  runs = tree_ind Claim cases

  -- the whole formula
  pub runs_whole : (x : Tree) → run home names values (postfix x) [] ≡ Some (means x ∷ [])
  unfolding run
  runs_whole x = ap (λ nodes. run home names values nodes []) (sym (append-nil (postfix x))) ∙ runs x [] []

  -- where more nodes can be run, the next one finds its children
  pub can_act : (node : Node) (rest : List Node) (stack after : Meanings) → run home names values (node ∷ rest) stack ≡ Some after → IsSome (acted home names values node stack)
  unfolding run
  can_act node rest stack after e =
      elim (acted home names values node stack) as (λ o. option_and_then (run home names values rest) o ≡ Some after → IsSome o) [
        | None ↦ λ none. absurd (absent after none)
        | Some m ↦ λ _. refl
      ] e

  pub run-acted : (node : Node) (rest : List Node) (stack after : Meanings) → acted home names values node stack ≡ Some after → run home names values (node ∷ rest) stack ≡ run home names values rest after
  unfolding run
  run-acted node rest stack after e = ap (option_and_then (run home names values rest)) e

-- What a loop over the nodes keeps: running what is left over the stack comes to what the whole comes to, and there
-- is room for all that is left.
pub record IsUnderWay (home : Place) (names : Names) (values : CellValues) (size : ℕ) (all rest : List Node) (operands : List Operand) : Type 0 where
  pub same : run home names values rest (stacked home values operands) ≡ run home names values all []
  pub room : length operands + length rest ≤ size

module _ (home : Place) (names : Names) (values : CellValues) (size : ℕ) where
  pub begins : (all rest : List Node) (operands : List Operand) → rest ≡ all → operands ≡ [] → length all ≤ size → IsUnderWay home names values size all rest operands
  begins all rest operands e none fits = record {
    same = ap (λ nodes. run home names values nodes (stacked home values operands)) e ∙ ap (λ os. run home names values all (stacked home values os)) none ∙ ap (run home names values all) (nothing_stacked home values);
    room = omega (arith, ap length e, ap length none);
  }

  comes_to : (all rest : List Node) (operands : List Operand) → IsUnderWay home names values size all rest operands → (tree : Tree) → all ≡ postfix tree → run home names values rest (stacked home values operands) ≡ Some (meaning home names values tree ∷ [])
  comes_to all rest operands way tree e = way.same ∙ ap (λ nodes. run home names values nodes []) e ∙ runs_whole home names values tree

  -- the next node finds its children, and there is room for what it makes
  pub goes_on : (all rest more : List Node) (node : Node) (operands : List Operand) → IsUnderWay home names values size all rest operands → AreOfTree all → rest ≡ node ∷ more → (length operands < size) × CanAct home names values node operands
  goes_on all rest more node operands way formula e =
      (omega (arith, way.room, ap length e), can_act home names values node more (stacked home values operands) (meaning home names values formula.0 ∷ []) (subst (λ nodes. run home names values nodes (stacked home values operands) ≡ Some (meaning home names values formula.0 ∷ [])) e (comes_to all rest operands way formula.0 formula.1)))

  pub stays_under_way : (all rest more : List Node) (node : Node) (operands new : List Operand) → IsUnderWay home names values size all rest operands → rest ≡ node ∷ more → Acts home names values node operands new → length new ≤ length operands + 1 → IsUnderWay home names values size all more new
  stays_under_way all rest more node operands new way e acts grown = record {
    same = sym (run-acted home names values node more (stacked home values operands) (stacked home values new) acts) ∙ ap (λ nodes. run home names values nodes (stacked home values operands)) (sym e) ∙ way.same;
    room = omega (arith, way.room, ap length e, grown);
  }

  -- at the end the formula's meaning is all that is left
  left_alone : (all rest : List Node) (operands : List Operand) → IsUnderWay home names values size all rest operands → rest ≡ [] → (tree : Tree) → all ≡ postfix tree → stacked home values operands ≡ meaning home names values tree ∷ []
  unfolding run
  left_alone all rest operands way none tree e = only (ap (λ nodes. run home names values nodes (stacked home values operands)) (sym none) ∙ comes_to all rest operands way tree e)

  pub one_is_left : (all rest : List Node) (operands : List Operand) → IsUnderWay home names values size all rest operands → AreOfTree all → rest ≡ [] → 0 < length operands
  one_is_left all rest operands way formula none = omega (arith, length-stacked home values operands, ap length (left_alone all rest operands way none formula.0 formula.1))

  pub evaluated : (all rest : List Node) (operands new : List Operand) (scalar : Scalar) → IsUnderWay home names values size all rest operands → rest ≡ [] → Pops home values operands new scalar → IsEvaluated home names values all (value_of scalar)
  evaluated all rest operands new scalar way none pops tree e =
      pops.value ∙ ap (λ (m : Meaning). m.scalar) (first (sym pops.taken ∙ left_alone all rest operands way none tree e))

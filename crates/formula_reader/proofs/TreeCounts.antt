-- The counts of a tree, by its top node.
use Rattle.calc_model.proofs.TreeFolds as folds
use Rattle.calc_model.specs.declared.tree.Tree.TheVariants as t
use Rattle.std.proofs.Common.{◌≡◌, ◌≤◌, ◌+◌, ◌-◌, ℕ, suc, List, [], ◌∷◌, ◌++◌, length, max, map, sum, refl, ap, ◌∙◌, subst, arith}
use Rattle.std.proofs.lemmas.List.Sums.{fold_push, sum_by_push}
use Rattle.calc_model.specs.Grammar.{IsOperand, error, large_number, name, number, reference, string}
use Rattle.calc_model.specs.Limits.{Counts, counts_of, counts_step, most, one_more_token, one_token}
use Rattle.calc_model.specs.declared.tree.Op.{Op}
use Rattle.calc_model.specs.declared.tree.Tree.{Tree}

abbrev pub tokens_of : Tree → ℕ
tokens_of x = (counts_of x).tokens

abbrev pub open_of : Tree → ℕ
open_of x = (counts_of x).open_at_once

abbrev pub parameters_of : Tree → ℕ
parameters_of x = (counts_of x).parameters

-- so many parentheses may be open, and so many parameters there be behind the first
pub record Within (more d : ℕ) (x : Tree) : Type 0 where
  pub opens : open_of x ≤ d
  pub parameters : parameters_of x ≤ suc more

abbrev tokens : Counts → ℕ
tokens c = c.tokens

abbrev opens : Counts → ℕ
opens c = c.open_at_once

abbrev parameters : Counts → ℕ
parameters c = c.parameters

-- the counts of an operand
pub record OneToken (x : Tree) : Type 0 where
  pub tokens : tokens_of x ≡ 1
  pub opens : open_of x ≡ 0
  pub parameters : parameters_of x ≡ 0

one_counted : {text : List ℕ} {x : Tree} → IsOperand text x → counts_of x ≡ one_token
one_counted (number text n s r) = folds.at-Number Counts counts_step n
one_counted (large_number text s r) = folds.at-Bad Counts counts_step _
one_counted (string text u) = folds.at-Words Counts counts_step text
one_counted (reference text r e) = folds.at-Ref Counts counts_step r
one_counted (error fault e) = folds.at-Bad Counts counts_step fault
one_counted (name text e) = folds.at-Name Counts counts_step text

pub operand_counts : {text : List ℕ} {x : Tree} → IsOperand text x → OneToken x
operand_counts is =
    let e = one_counted is in
    record { tokens = ap tokens e; opens = ap opens e; parameters = ap parameters e }

-- the counts of a node that has one child: a token more
pub record OneMore (node child : Tree) : Type 0 where
  pub tokens : tokens_of node ≡ tokens_of child + 1
  pub opens : open_of node ≡ open_of child
  pub parameters : parameters_of node ≡ parameters_of child

one_more : (node child : Tree) → counts_of node ≡ one_more_token (counts_of child) → OneMore node child
one_more node child e = record { tokens = ap tokens e; opens = ap opens e; parameters = ap parameters e }

pub plus_counts : (x : Tree) → OneMore (t.Plus x) x
plus_counts x = one_more (t.Plus x) x (folds.at-Plus Counts counts_step x)

pub minus_counts : (x : Tree) → OneMore (t.Minus x) x
minus_counts x = one_more (t.Minus x) x (folds.at-Minus Counts counts_step x)

pub percent_counts : (x : Tree) → OneMore (t.Percent x) x
percent_counts x = one_more (t.Percent x) x (folds.at-Percent Counts counts_step x)

pub within_child : {others d : ℕ} {node child : Tree} → OneMore node child → Within others d node → Within others d child
within_child {others = others} {d = d} counts within = record {
  opens = subst (λ n. n ≤ d) counts.opens within.opens;
  parameters = subst (λ n. n ≤ suc others) counts.parameters within.parameters;
}

pub record ParenCounts (x : Tree) : Type 0 where
  pub tokens : tokens_of (t.Paren x) ≡ tokens_of x + 2
  pub opens : open_of (t.Paren x) ≡ open_of x + 1
  pub parameters : parameters_of (t.Paren x) ≡ parameters_of x

pub paren_counts : (x : Tree) → ParenCounts x
paren_counts x =
    let e = folds.at-Paren Counts counts_step x in
    record { tokens = ap tokens e; opens = ap opens e; parameters = ap parameters e }

pub record BinaryCounts (op : Op) (x y : Tree) : Type 0 where
  pub tokens : tokens_of (t.Binary op x y) ≡ tokens_of x + 1 + tokens_of y
  pub opens : open_of (t.Binary op x y) ≡ max (open_of x) (open_of y)
  pub parameters : parameters_of (t.Binary op x y) ≡ max (parameters_of x) (parameters_of y)

pub binary_counts : (op : Op) (x y : Tree) → BinaryCounts op x y
binary_counts op x y =
    let e = folds.at-Binary Counts counts_step op x y in
    record { tokens = ap tokens e; opens = ap opens e; parameters = ap parameters e }

-- what parameters count together, semicolons apart
abbrev pub all_tokens : List Tree → ℕ
all_tokens args = sum (map tokens (map counts_of args))

-- the tokens of parameters, with the semicolons between them
abbrev pub args_tokens : List Tree → ℕ
args_tokens args = all_tokens args + (length args - 1)

abbrev pub most_open : List Tree → ℕ
most_open args = most (map opens (map counts_of args))

abbrev pub most_parameters : List Tree → ℕ
most_parameters args = most (map parameters (map counts_of args))

pub record CallCounts (word : List ℕ) (args : List Tree) : Type 0 where
  pub tokens : tokens_of (t.Call word args) ≡ all_tokens args + (length args - 1) + 2 + 1
  pub opens : open_of (t.Call word args) ≡ most_open args + 1
  pub parameters : parameters_of (t.Call word args) ≡ max (length args) (most_parameters args)

map_len : (args : List Tree) → length (map counts_of args) ≡ length args
map_len [] = refl
map_len (x ∷ args) = omega (arith, map_len args)

pub call_counts : (word : List ℕ) (args : List Tree) → CallCounts word args
call_counts word args =
    let e = folds.at-Call Counts counts_step word args in
    let same = map_len args in
    record {
      tokens = ap tokens e ∙ ap (λ n. all_tokens args + (n - 1) + 2 + 1) same;
      opens = ap opens e;
      parameters = ap parameters e ∙ ap (λ n. max n (most_parameters args)) same;
    }

map_push : {A B : Type 0} (f : A → B) (xs : List A) (x : A) → map f (xs ++ x ∷ []) ≡ map f xs ++ f x ∷ []
map_push f [] x = refl
map_push f (y ∷ xs) x = ap (λ ys. f y ∷ ys) (map_push f xs x)

pub all_tokens_push : (args : List Tree) (x : Tree) → all_tokens (args ++ x ∷ []) ≡ all_tokens args + tokens_of x
all_tokens_push args x =
    ap (λ cs. sum (map tokens cs)) (map_push counts_of args x)
    ∙ ap sum (map_push tokens (map counts_of args) (counts_of x))
    ∙ sum_by_push (λ n. n) (map tokens (map counts_of args)) (tokens_of x)

pub most_open_push : (args : List Tree) (x : Tree) → most_open (args ++ x ∷ []) ≡ max (most_open args) (open_of x)
most_open_push args x =
    ap (λ cs. most (map opens cs)) (map_push counts_of args x)
    ∙ ap most (map_push opens (map counts_of args) (counts_of x))
    ∙ fold_push max 0 (map opens (map counts_of args)) (open_of x)

pub most_parameters_push : (args : List Tree) (x : Tree) → most_parameters (args ++ x ∷ []) ≡ max (most_parameters args) (parameters_of x)
most_parameters_push args x =
    ap (λ cs. most (map parameters cs)) (map_push counts_of args x)
    ∙ ap most (map_push parameters (map counts_of args) (counts_of x))
    ∙ fold_push max 0 (map parameters (map counts_of args)) (parameters_of x)

-- Every text that spells a formula within the limits is read as its tree.
use Rattle.std.proofs.Common.{◌≡◌, ◌≤◌, ◌+◌, ◌-◌, ◌&&◌, ℕ, suc, Bool, true, false, nat_le, List, [], ◌∷◌, ◌++◌, length, Some, refl, sym, ap, ◌∙◌, lit<, arith}
use Rattle.std.specs.Prelude.{◌==◌}
use Rattle.std.proofs.lemmas.Bool.{and_parts, cond-false, le-ltb, leb-true}
use Rattle.std.proofs.lemmas.Bool.Decides.{nat_tests}
use Rattle.std.proofs.lemmas.List.{append-nil}
use Rattle.std.proofs.lemmas.Option.{same_Some}
use Rattle.calc_model.specs.Grammar.{IsFront, Spells, doubled, long, long_doubled, short}
use Rattle.calc_model.specs.Limits.{InLimits, is_in_limits}
use Rattle.calc_model.specs.Tokens.{is_blank}
use Rattle.calc_model.specs.declared.tree.Tree.{Tree}
use Rattle.formula_reader.specs.Unread.{◌>>=◌}
use Rattle.formula_reader.specs.Reading.{behind_front, comparison_within, formula_by, formula_of, formula_within, whole, without}
use Rattle.formula_reader.specs.Operands.{inside_at, operands_at}
use Rattle.formula_reader.proofs.Complete.Beginnings.{behind_blanks, is_level_start, level_begins, level_no_blank}
use Rattle.byte_cuts.specs.Fronts.{begins}
use Rattle.byte_cuts.proofs.Fronts.{behind-all}
use Rattle.formula_reader.proofs.Steps.{at}
use Rattle.formula_reader.proofs.Complete.Leaves.{begins_other}
use Rattle.formula_reader.proofs.Complete.Levels.{claim_reads, level_read}
use Rattle.formula_reader.proofs.TreeCounts.{open_of, parameters_of, tokens_of}

abbrev is_equals : ℕ → Bool
is_equals byte = byte == 61

no_second : (rest : List ℕ) → begins is_equals rest ≡ false → without 61 rest ≡ rest
no_second [] h = refl
no_second (byte ∷ rest) h = cond-false (byte == 61) _ _ h

front_passed : {front : List ℕ} (rest : List ℕ) → IsFront front → begins is_equals rest ≡ false → behind_front (front ++ rest) ≡ Some rest
front_passed rest short h = ap Some (no_second rest h)
front_passed rest doubled h = refl
front_passed rest long h = ap Some (no_second rest h)
front_passed rest long_doubled h = refl

-- the limits of a tree
record TreeLimits (x : Tree) : Type 0 where
  tokens : tokens_of x ≤ 1024
  opens : open_of x ≤ 64
  parameters : parameters_of x ≤ 30

limits_of : (x : Tree) → is_in_limits x ≡ true → TreeLimits x
unfolding is_in_limits
limits_of x h =
    let parts = and_parts (nat_le (tokens_of x) 1024 && nat_le (open_of x) 64) (nat_le (parameters_of x) 30) h in
    let first = and_parts (nat_le (tokens_of x) 1024) (nat_le (open_of x) 64) parts.0 in
    record {
      tokens = leb-true (tokens_of x) 1024 first.0;
      opens = leb-true (open_of x) 64 first.1;
      parameters = leb-true (parameters_of x) 30 parts.1;
    }

level_no_equals : (byte : ℕ) → is_level_start byte ≡ true → is_equals byte ≡ false
level_no_equals byte h = grind (arith, nat_tests)

blank_no_equals : (byte : ℕ) → is_blank byte ≡ true → is_equals byte ≡ false
blank_no_equals byte h = grind (arith, nat_tests)

-- a text that spells a formula, within any limits that are wide enough
within_read : (text : List ℕ) (tree : Tree) (others depth tokens : ℕ) → Spells text tree → tokens_of tree ≤ tokens → open_of tree ≤ depth → parameters_of tree ≤ suc others → formula_within others depth tokens text ≡ Some tree
within_read text tree others depth tokens s some opens parameters =
    let comparison = s.comparison in
    let starts = level_begins s.spelled in
    let m = tokens - tokens_of tree in
    let all : tokens ≡ tokens_of tree + m = omega arith in
    let ends = behind_blanks is_equals s.blanks comparison blank_no_equals s.are_blank (begins_other is_equals is_level_start comparison level_no_equals starts) in
    ap (λ t. behind_front t >>= comparison_within others depth tokens) s.joined
    ∙ ap (λ o. o >>= comparison_within others depth tokens) (front_passed (s.blanks ++ comparison) s.is_front ends)
    ∙ ap (λ t. operands_at (inside_at others depth) 6 (at t tokens) >>= whole) (behind-all is_blank s.blanks comparison s.are_blank (begins_other is_blank is_level_start comparison level_no_blank starts) ∙ sym (append-nil comparison))
    ∙ ap (λ n. operands_at (inside_at others depth) 6 (at (comparison ++ []) n) >>= whole) all
    ∙ ap (λ o. o >>= whole) (claim_reads (inside_at others depth) 6 6 comparison tree (level_read s.spelled others depth (record { opens = opens; parameters = parameters })) [] m (lit< tt) refl (lit< tt))

pub formula_read : (text : List ℕ) (tree : Tree) → Spells text tree → InLimits text → formula_of text ≡ Some tree
unfolding formula_of
formula_read text tree s limits =
    let counts = limits_of tree (limits.counted tree s) in
    ap (λ b. formula_by b text) (le-ltb 8192 (length text) limits.short)
    ∙ within_read text tree 29 64 1024 s counts.tokens counts.opens counts.parameters

-- A text spells one tree: both are read within the limits that hold both.
pub one_tree : (text : List ℕ) (x y : Tree) → Spells text x → Spells text y → x ≡ y
one_tree text x y a b =
    let others = parameters_of x + parameters_of y in
    let depth = open_of x + open_of y in
    let tokens = tokens_of x + tokens_of y in
    same_Some x y
    (sym (within_read text x others depth tokens a (omega arith) (omega arith) (omega arith))
    ∙ within_read text y others depth tokens b (omega arith) (omega arith) (omega arith))

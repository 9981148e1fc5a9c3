-- The limits of formulas, in the bytes of a text, in its tokens behind the front, in parentheses, of calls or not,
-- that are open at one point, and in the parameters of a call. A tree has one node for each part that does
-- something, so all but the first are counts of the tree that the text spells.
use Rattle.std.specs.Prelude.{◌≡◌, ◌≤◌, ℕ, ◌+◌, ◌-◌, ◌&&◌, nat_le, Bool, true, List, length, sum, max, map, fold}
use Rattle.calc_model.specs.declared.tree.Tree.{Tree}
use Rattle.calc_model.specs.declared.tree.Tree.TheOpen.{Tree-F}
use Rattle.calc_model.specs.declared.tree.Tree.TheFolds.{fold-Tree}
use Rattle.calc_model.specs.declared.limits.TheConstants.{MOST_FORMULA_BYTES, MOST_OPEN, MOST_PARAMETERS, MOST_TOKENS}
use Rattle.calc_model.specs.Grammar.{Spells}

abbrev pub most : List ℕ → ℕ
most counts = fold max 0 counts

-- What is counted of a tree: its tokens, how many parentheses are open at one point, and the most parameters
-- of a call.
pub record Counts : Type 0 where
  pub tokens : ℕ
  pub open_at_once : ℕ
  pub parameters : ℕ

-- a token before or behind what is counted
abbrev pub one_more_token : Counts → Counts
one_more_token counts = record counts { tokens = counts.tokens + 1 }

-- parentheses round what is counted
abbrev pub in_parentheses : Counts → Counts
in_parentheses counts = record counts { tokens = counts.tokens + 2; open_at_once = counts.open_at_once + 1 }

-- parameters with semicolons between them
abbrev pub of_parameters : List Counts → Counts
of_parameters args = record {
  tokens = sum (map (λ (arg : Counts). arg.tokens) args) + (length args - 1);
  open_at_once = most (map (λ (arg : Counts). arg.open_at_once) args);
  parameters = max (length args) (most (map (λ (arg : Counts). arg.parameters) args));
}

abbrev pub one_token : Counts
one_token = record { tokens = 1; open_at_once = 0; parameters = 0 }

-- the counts of a node, from those of its children
abbrev pub counts_step : Tree-F Counts → Counts
counts_step (Tree-F.Call name args) = one_more_token (in_parentheses (of_parameters args))
counts_step (Tree-F.Paren child) = in_parentheses child
counts_step (Tree-F.Plus child) = one_more_token child
counts_step (Tree-F.Minus child) = one_more_token child
counts_step (Tree-F.Percent child) = one_more_token child
counts_step (Tree-F.Binary op left right) = record {
  tokens = left.tokens + 1 + right.tokens;
  open_at_once = max left.open_at_once right.open_at_once;
  parameters = max left.parameters right.parameters;
}
counts_step _ = one_token

abbrev pub counts_of : Tree → Counts
counts_of = fold-Tree Counts counts_step

abbrev pub is_within : Counts → Bool
is_within counts = nat_le counts.tokens MOST_TOKENS && nat_le counts.open_at_once MOST_OPEN && nat_le counts.parameters MOST_PARAMETERS

-- the tree's counts are within the limits
unfoldable pub is_in_limits : Tree → Bool
is_in_limits tree = is_within (counts_of tree)

-- The text is within the limits of reading. It spells one tree at most, so this is a property of the text.
pub record InLimits (text : List ℕ) : Type 0 where
  pub short : length text ≤ MOST_FORMULA_BYTES
  pub counted : (tree : Tree) → Spells text tree → is_in_limits tree ≡ true

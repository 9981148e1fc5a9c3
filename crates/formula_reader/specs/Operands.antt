-- Operands and the operators behind them as a reading from the left, which gives the tree and what is left behind
-- it. What stands inside parentheses is read by a function that is passed in, with one parenthesis less that may be
-- opened.
use Rattle.std.specs.Prelude.{◌≡◌, Vec, Result, Ok, Err, ℕ, zero, suc, ◌==◌, ◌-◌, ◌&&◌, ◌++◌, nat_lt, Bool, List, [], ◌∷◌, Option, Some, None, if◌then◌else◌, option_map}
use Rattle.std.specs.List.{take_while}
use Rattle.std.specs.declared.alloc.Global.{Global}
use Rattle.byte_cuts.specs.Fronts.{behind}
use Rattle.calc_model.specs.Grammar.{in_capitals, op_level}
use Rattle.calc_model.specs.Tokens.{begins_identifier, is_identifier, is_in_identifier, is_name}
use Rattle.calc_model.specs.declared.limits.TheConstants.{MOST_PARAMETERS}
use Rattle.calc_model.specs.declared.tree.Op.{Op}
use Rattle.calc_model.specs.declared.tree.Tree.{Tree}
use Rattle.calc_model.specs.declared.tree.Tree.TheVariants as t
use Rattle.formula_reader.specs.declared.cursor.Cursor.{Cursor}
use Rattle.formula_reader.specs.declared.cursor.Stop.{Stop}
use Rattle.formula_reader.specs.declared.operators.Operator.{Operator}
use Rattle.formula_reader.specs.declared.operators.Operator.TheVariants as operators
use Rattle.formula_reader.specs.declared.operands.Start.{Start}
use Rattle.formula_reader.specs.declared.operands.Start.TheVariants.{Operand, Parenthesis, Word}
use Rattle.formula_reader.specs.Leaves.{operand_at, token_by}
use Rattle.formula_reader.specs.declared.signs.Sign.{Sign}
use Rattle.formula_reader.specs.Operators.{operator_taken}
use Rattle.formula_reader.specs.Signs.{sign_read, sign_taken, signs_read}
use Rattle.formula_reader.specs.Unread.{◌>>=◌, Fails, Read, Unread, beside, next_is, past, repeat, token_at, unread_of}

-- Whether one more parenthesis may be opened, how a comparison inside it is read, and how many more parameters a
-- call may have behind its first.
pub record Inside : Type 0 where
  pub opens : Bool
  pub read : Unread → Read
  pub more : ℕ

-- what the first byte says of a primary
abbrev pub start_of : List ℕ → Start
start_of [] = Operand
start_of (byte ∷ rest) = if byte == 40 then Parenthesis else (if begins_identifier byte then Word else Operand)

-- the node of what stands inside parentheses, behind the closing one
abbrev pub closed : {A : Type 0} → (A → Tree) → A × Unread → Read
closed node inside = option_map (λ (unread : Unread). (node inside.0, unread)) (token_at 41 inside.1)

-- the word of a name, which has no parenthesis behind it
abbrev pub name_of : List ℕ → Option Tree
name_of word = if is_name word then Some (t.Name word) else None

module _ (comparison : Unread → Read) where
  -- parameters with one more that was read behind them
  abbrev pub pushed : List Tree → Tree × Unread → Option (Option (List Tree) × Unread)
  pushed args arg = Some (Some (args ++ arg.0 ∷ []), arg.1)

  -- one more parameter, where a semicolon is next
  unfoldable pub arg_behind : List Tree → Unread → Option (Option (List Tree) × Unread)
  arg_behind args unread =
      if next_is 59 unread.bytes then token_at 59 unread >>= comparison >>= pushed args else Some (None, unread)

  -- parameters, of which the first was read, and at most so many more
  abbrev pub more_args : ℕ → Tree × Unread → Option (List Tree × Unread)
  more_args more first = repeat arg_behind more (first.0 ∷ []) first.1

module _ (nested : Inside) where
  -- the parameters behind a call's parenthesis, which may close at once
  unfoldable pub args_at : Unread → Option (List Tree × Unread)
  args_at unread =
      if next_is 41 unread.bytes then Some ([], unread) else nested.read unread >>= more_args nested.read nested.more

  abbrev pub call_node : List ℕ → List Tree → Tree
  call_node name args = t.Call (in_capitals name) args

  -- a call from its parenthesis on
  abbrev pub call_behind : List ℕ → Unread → Read
  call_behind name unread =
      if is_identifier name && nested.opens then token_at 40 unread >>= args_at >>= closed (call_node name) else None

  -- a call or a name, by what stands behind the word
  unfoldable pub word_behind : List ℕ → Unread → Read
  word_behind name unread = if next_is 40 unread.bytes then call_behind name unread else option_map (beside unread) (name_of name)

  -- the longest word in front, and what it is
  abbrev pub word_at : Unread → Read
  word_at unread = past unread.tokens (behind is_in_identifier unread.bytes) >>= word_behind (take_while is_in_identifier unread.bytes)

  -- a primary, by what its first byte says
  abbrev pub primary_by : Start → Unread → Read
  primary_by Parenthesis unread = token_at 40 unread >>= nested.read >>= closed t.Paren
  primary_by Word unread = word_at unread
  primary_by Operand unread = token_by operand_at unread

  unfoldable pub primary_at : Unread → Read
  primary_at unread = primary_by (start_of unread.bytes) unread

module _ (nested : Inside) where
  -- a primary, or what is read behind a sign
  abbrev pub behind_sign : (Unread → Read) → Option Sign × Unread → Read
  behind_sign rest found = elim found.0 [ None ↦ primary_at nested found.1 | Some sign ↦ rest found.1 >>= sign_read sign ]

  -- at most so many prefix operators, and the primary behind them
  unfoldable pub prefixed_within : ℕ → Unread → Read
  prefixed_within zero unread = sign_taken unread >>= behind_sign (λ rest. None)
  prefixed_within (suc n) unread = sign_taken unread >>= behind_sign (prefixed_within n)

  -- prefix operators, each of which takes a token, and the primary behind them
  abbrev pub prefixed_at : Unread → Read
  prefixed_at unread = prefixed_within unread.tokens unread

-- What taking all signs gives, whatever may stand inside parentheses: what is read from there on is read behind them.
abbrev pub TakesSigns : Result (Vec Sign Global) Stop → Cursor → Cursor → Type 0
TakesSigns (Ok signs) old new = (nested : Inside) → prefixed_at nested (unread_of old) ≡ (primary_at nested (unread_of new) >>= signs_read signs.items)
TakesSigns (Err stop) old new = (nested : Inside) → Fails stop (prefixed_at nested (unread_of old))

module _ (below : ℕ → Unread → Read) where
  abbrev pub infix_read : Op → Tree → Tree × Unread → Read
  infix_read op left right = Some (t.Binary op left right.0, right.1)

  -- a tree with the operator behind it, and with the right operand of an infix one
  abbrev pub attached : Operator → Tree → Unread → Read
  attached operators.Percent left unread = Some (t.Percent left, unread)
  attached (operators.Infix op) left unread = below (op_level op - 1) unread >>= infix_read op left

  abbrev pub more_made : Tree × Unread → Option (Option Tree × Unread)
  more_made made = Some (Some made.0, made.1)

  abbrev pub attached_by : Tree → Option Operator × Unread → Option (Option Tree × Unread)
  attached_by left found =
      elim found.0 [ None ↦ Some (None, found.1) | Some operator ↦ attached operator left found.1 >>= more_made ]

  -- an operator up to the level behind a tree
  unfoldable pub operator_behind : ℕ → Tree → Unread → Option (Option Tree × Unread)
  operator_behind level left unread = operator_taken level unread >>= attached_by left

  -- the operators up to the level behind a tree, each of which takes a token
  abbrev pub operators_behind : ℕ → Tree × Unread → Read
  operators_behind level first = repeat (operator_behind level) first.1.tokens first.0 first.1

module _ (nested : Inside) where
  -- operands up to a level, for each level below a bound
  unfoldable pub operands_below : ℕ → ℕ → Unread → Read
  operands_below zero level unread = None
  operands_below (suc bound) level unread =
      if level == bound then prefixed_at nested unread >>= operators_behind (operands_below bound) level
      else operands_below bound level unread

  -- An operand, and the operators up to the level behind it, which bind it to the left.
  abbrev pub operands_at : ℕ → Unread → Read
  operands_at level unread = operands_below (suc level) level unread

-- a comparison inside a parenthesis, where so many may be opened with it, with so many more parameters
unfoldable pub comparison_at : ℕ → ℕ → Unread → Read
comparison_at more zero unread = None
comparison_at more (suc depth) unread = operands_at (record { opens = nat_lt 0 depth; read = comparison_at more depth; more = more }) 6 unread

abbrev pub inside_at : ℕ → ℕ → Inside
inside_at more depth = record { opens = nat_lt 0 depth; read = comparison_at more depth; more = more }

-- the same with as many parameters as a call may have
abbrev pub comparison_of : ℕ → Unread → Read
comparison_of depth = comparison_at (MOST_PARAMETERS - 1) depth

abbrev pub inside_of : ℕ → Inside
inside_of depth = inside_at (MOST_PARAMETERS - 1) depth

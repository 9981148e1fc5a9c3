-- One turn of each loop: over the operators behind an operand, over prefix operators, and over the parameters behind
-- the first.
use Rattle.formula_reader.specs.declared.operators.Operator.TheVariants as o
use Rattle.std.proofs.Common.{◌≡◌, ◌≤◌, ◌<◌, ◌-◌, ℕ, zero, suc, Bool, true, false, cond, nat_le, List, Option, Some, None, refl, sym, ap, ◌∙◌, arith, [], ◌∷◌, ◌++◌}
use Rattle.std.specs.Prelude.{◌==◌, option_map}
use Rattle.std.proofs.lemmas.Bool.{cond-false, cond-true, eqb-false, eqb-true, leb-true, ne_eqb}
use Rattle.calc_model.specs.Grammar.{op_level}
use Rattle.calc_model.proofs.GrammarLevels.{level_some}
use Rattle.calc_model.specs.declared.tree.Tree.{Tree}
use Rattle.formula_reader.specs.declared.operators.Operator.{Operator}
use Rattle.formula_reader.specs.Unread.{◌>>=◌, Unread, past, repeat, Read, skip, next_is, token_at, some_taken, taken_if}
use Rattle.formula_reader.specs.Operators.{level_of, operator_at, operator_taken, up_to}
use Rattle.formula_reader.specs.Operands.{Inside, attached, attached_by, infix_read, more_made, operands_at, operands_below, operator_behind, operators_behind, prefixed_at, behind_sign, prefixed_within, primary_at, arg_behind, args_at, more_args, pushed}
use Rattle.formula_reader.specs.declared.signs.Sign.{Sign}
use Rattle.formula_reader.specs.Signs.{sign_at, sign_read, sign_taken, signed, signed_by, signs_read}
use Rattle.formula_reader.proofs.Steps.{taken_some}

module _ (nested : Inside) where
  -- what is read with tighter operands than a level below the bound
  abbrev Bounded : ℕ → ℕ → Unread → Type 0
  Bounded bound level unread = operands_below nested bound level unread ≡ (prefixed_at nested unread >>= operators_behind (operands_below nested level) level)

  bounded_by : (bound level : ℕ) (unread : Unread) (b : Bool) → (level == bound) ≡ b → level < suc bound → (level < bound → Bounded bound level unread) → Bounded (suc bound) level unread
  unfolding operands_below
  bounded_by bound level unread true e h below =
      cond-true (level == bound) _ _ e
      ∙ ap (λ k. prefixed_at nested unread >>= operators_behind (operands_below nested k) level) (sym (eqb-true level bound e))
  bounded_by bound level unread false e h below =
      let other : level ≡ bound → ⊥ = eqb-false level bound e in
      cond-false (level == bound) _ _ e ∙ below (omega (arith, other))

  bounded : (bound level : ℕ) (unread : Unread) → level < bound → Bounded bound level unread
  bounded zero level unread h = absurd (omega arith)
  bounded (suc bound) level unread h = bounded_by bound level unread (level == bound) refl h (λ less. bounded bound level unread less)

  attached_same : (level : ℕ) (operator : Operator) (left : Tree) (unread : Unread) → level_of operator ≤ level → attached (operands_below nested level) operator left unread ≡ attached (operands_at nested) operator left unread
  attached_same level o.Percent left unread h = refl
  attached_same level (o.Infix op) left unread h =
      let tighter = op_level op - 1 in
      let some = level_some op in
      ap (λ right. right >>= infix_read (operands_at nested) op left) (bounded level tighter unread (omega arith) ∙ sym (bounded (suc tighter) tighter unread (omega arith)))

  -- behind an operator that was taken, and that the level allows
  after_same : (level : ℕ) (left : Tree) (operator : Operator) (after : Option Unread) → level_of operator ≤ level → (option_map (some_taken operator) after >>= attached_by (operands_below nested level) left) ≡ (option_map (some_taken operator) after >>= attached_by (operands_at nested) left)
  after_same level left operator None h = refl
  after_same level left operator (Some after) h = ap (λ made. made >>= more_made (operands_at nested)) (attached_same level operator left after h)

  found_same : (level : ℕ) (left : Tree) (unread : Unread) (found : Operator × List ℕ) (b : Bool) → nat_le (level_of found.0) level ≡ b
      → (taken_if unread (cond b (Some found) None) >>= attached_by (operands_below nested level) left) ≡ (taken_if unread (cond b (Some found) None) >>= attached_by (operands_at nested) left)
  found_same level left unread found true e = after_same level left found.0 (past unread.tokens found.1) (leb-true (level_of found.0) level e)
  found_same level left unread found false e = refl

  behind_same : (level : ℕ) (left : Tree) (unread : Unread) (found : Option (Operator × List ℕ)) → (taken_if unread (up_to level found) >>= attached_by (operands_below nested level) left) ≡ (taken_if unread (up_to level found) >>= attached_by (operands_at nested) left)
  behind_same level left unread None = refl
  behind_same level left unread (Some found) = found_same level left unread found (nat_le (level_of found.0) level) refl

  operator_same : (level : ℕ) → operator_behind (operands_below nested level) level ≡ operator_behind (operands_at nested) level
  unfolding operator_behind operator_taken
  operator_same level = λ i left unread. behind_same level left unread (operator_at unread.bytes) i

  -- an operand, and the operators behind it, by operands up to any level
  pub operands_is : (level : ℕ) (unread : Unread) → operands_at nested level unread ≡ (prefixed_at nested unread >>= operators_behind (operands_at nested) level)
  operands_is level unread =
      bounded (suc level) level unread (omega arith)
      ∙ ap (λ step. prefixed_at nested unread >>= (λ first. repeat step first.1.tokens first.0 first.1)) (operator_same level)

pub no_some : {A : Type 0} (o : Option A) → ((x : A) → o ≡ Some x → ⊥) → o ≡ None
no_some None h = refl
no_some (Some x) h = absurd (h x refl)

pub signed_push : (before : List Sign) (sign : Sign) (x : Tree) → signed (before ++ sign ∷ []) x ≡ signed before (signed_by sign x)
signed_push [] sign x = refl
signed_push (first ∷ before) sign x = ap (signed_by first) (signed_push before sign x)

pub read_pushed : (before : List Sign) (sign : Sign) (read : Read) → (read >>= sign_read sign >>= signs_read before) ≡ (read >>= signs_read (before ++ sign ∷ []))
read_pushed before sign None = refl
read_pushed before sign (Some read) = ap (λ x. Some (x, read.1)) (sym (signed_push before sign read.0))

pub read_unsigned : (read : Read) → (read >>= signs_read []) ≡ read
read_unsigned None = refl
read_unsigned (Some read) = refl

past_more : (n : ℕ) (rest : List ℕ) → past (suc n) rest ≡ Some (record { bytes = skip rest; tokens = n })
past_more n rest =
    let less : suc n - 1 ≡ n = omega arith in
    cond-false (suc n == 0) _ _ (ne_eqb (suc n) 0 (omega arith)) ∙ ap (λ k. Some (record { bytes = skip rest; tokens = k })) less

-- a sign takes a token
pub sign_tokens : (unread after : Unread) (sign : Sign) → sign_taken unread ≡ Some (Some sign, after) → after.tokens < unread.tokens
unfolding sign_taken
sign_tokens unread after sign h =
    let taken = (taken_some unread after sign (sign_at unread.bytes) h).passed in
    omega arith

module _ (nested : Inside) where
  taken_last : (found : Option (Sign × List ℕ)) (bytes : List ℕ) → (taken_if (record { bytes = bytes; tokens = 0 }) found >>= behind_sign nested (λ rest. None)) ≡ (taken_if (record { bytes = bytes; tokens = 0 }) found >>= behind_sign nested (prefixed_at nested))
  taken_last None bytes = refl
  taken_last (Some found) bytes = refl

  taken_more : (n : ℕ) (found : Option (Sign × List ℕ)) (bytes : List ℕ) → (taken_if (record { bytes = bytes; tokens = suc n }) found >>= behind_sign nested (prefixed_within nested n)) ≡ (taken_if (record { bytes = bytes; tokens = suc n }) found >>= behind_sign nested (prefixed_at nested))
  taken_more n None bytes = refl
  taken_more n (Some found) bytes =
      let one = past_more n found.1 in
      ap (λ after. option_map (some_taken found.0) after >>= behind_sign nested (prefixed_within nested n)) one
      ∙ sym (ap (λ after. option_map (some_taken found.0) after >>= behind_sign nested (prefixed_at nested)) one)

  is_within : (n : ℕ) (bytes : List ℕ) → prefixed_at nested (record { bytes = bytes; tokens = n }) ≡ (sign_taken (record { bytes = bytes; tokens = n }) >>= behind_sign nested (prefixed_at nested))
  unfolding prefixed_within sign_taken
  is_within zero bytes = taken_last (sign_at bytes) bytes
  is_within (suc n) bytes = taken_more n (sign_at bytes) bytes

  -- a primary, or a sign and what stands behind it
  pub prefixed_is : (unread : Unread) → prefixed_at nested unread ≡ (sign_taken unread >>= behind_sign nested (prefixed_at nested))
  prefixed_is unread = is_within unread.tokens unread.bytes

  prefixed_by : (unread : Unread) (taken : Option (Option Sign × Unread)) → sign_taken unread ≡ taken → prefixed_at nested unread ≡ (taken >>= behind_sign nested (prefixed_at nested))
  prefixed_by unread taken e = prefixed_is unread ∙ ap (λ o. o >>= behind_sign nested (prefixed_at nested)) e

  -- a primary without signs, and what stands behind a sign
  pub no_sign : (unread after : Unread) → sign_taken unread ≡ Some (None, after) → prefixed_at nested unread ≡ primary_at nested after
  no_sign unread after e = prefixed_by unread (Some (None, after)) e

  pub unsigned : (unread : Unread) → sign_at unread.bytes ≡ None → prefixed_at nested unread ≡ primary_at nested unread
  unfolding sign_taken
  unsigned unread e = no_sign unread unread (ap (taken_if unread) e)

  pub one_sign : (sign : Sign) (unread after : Unread) → sign_taken unread ≡ Some (Some sign, after) → prefixed_at nested unread ≡ (prefixed_at nested after >>= sign_read sign)
  one_sign sign unread after e = prefixed_by unread (Some (Some sign, after)) e

  -- what the loop over signs keeps: what is read behind those that were taken is what is read from the start
  module _ (before : List Sign) (unread start : Unread) where
    pub signs_fail : sign_taken unread ≡ None → (prefixed_at nested unread >>= signs_read before) ≡ prefixed_at nested start → prefixed_at nested start ≡ None
    signs_fail e same = sym same ∙ ap (λ o. o >>= signs_read before) (prefixed_by unread None e)

    pub signs_end : (after : Unread) → sign_taken unread ≡ Some (None, after) → (prefixed_at nested unread >>= signs_read before) ≡ prefixed_at nested start → prefixed_at nested start ≡ (primary_at nested after >>= signs_read before)
    signs_end after e same = sym same ∙ ap (λ o. o >>= signs_read before) (no_sign unread after e)

    pub signs_go : (sign : Sign) (after : Unread) → sign_taken unread ≡ Some (Some sign, after) → (prefixed_at nested unread >>= signs_read before) ≡ prefixed_at nested start → (prefixed_at nested after >>= signs_read (before ++ sign ∷ [])) ≡ prefixed_at nested start
    signs_go sign after e same =
        sym (read_pushed before sign (prefixed_at nested after)) ∙ sym (ap (λ o. o >>= signs_read before) (one_sign sign unread after e)) ∙ same

module _ (below : ℕ → Unread → Read) (level : ℕ) (left : Tree) (unread : Unread) where
  pub operator_fails : operator_taken level unread ≡ None → operator_behind below level left unread ≡ None
  unfolding operator_behind
  operator_fails e = ap (λ o. o >>= attached_by below left) e

  pub operator_stops : (after : Unread) → operator_taken level unread ≡ Some (None, after) → operator_behind below level left unread ≡ Some (None, after)
  unfolding operator_behind
  operator_stops after e = ap (λ o. o >>= attached_by below left) e

  pub operator_found : (operator : Operator) (after : Unread) → operator_taken level unread ≡ Some (Some operator, after) → operator_behind below level left unread ≡ (attached below operator left after >>= more_made below)
  unfolding operator_behind
  operator_found operator after e = ap (λ o. o >>= attached_by below left) e

module _ (comparison : Unread → Read) (args : List Tree) (unread : Unread) where
  pub arg_stops : next_is 59 unread.bytes ≡ false → arg_behind comparison args unread ≡ Some (None, unread)
  unfolding arg_behind
  arg_stops e = cond-false (next_is 59 unread.bytes) _ _ e

  pub arg_found : next_is 59 unread.bytes ≡ true → arg_behind comparison args unread ≡ (token_at 59 unread >>= comparison >>= pushed comparison args)
  unfolding arg_behind
  arg_found e = cond-true (next_is 59 unread.bytes) _ _ e

  pub arg_token : (after : Option Unread) → next_is 59 unread.bytes ≡ true → token_at 59 unread ≡ after → arg_behind comparison args unread ≡ (after >>= comparison >>= pushed comparison args)
  arg_token after e token = arg_found e ∙ ap (λ o. o >>= comparison >>= pushed comparison args) token

-- parameters, of which there is one
pub args_first : (nested : Inside) (unread : Unread) (first : Read) → next_is 41 unread.bytes ≡ false → nested.read unread ≡ first → args_at nested unread ≡ (first >>= more_args nested.read nested.more)
unfolding args_at
args_first nested unread first e given =
    cond-false (next_is 41 unread.bytes) _ _ e ∙ ap (λ o. o >>= more_args nested.read nested.more) given

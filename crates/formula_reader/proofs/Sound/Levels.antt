-- What is read up to a level is spelled so, within the limits.
use Rattle.formula_reader.specs.declared.operators.Operator.TheVariants as o
use Rattle.calc_model.specs.declared.tree.Tree.TheVariants as t
use Rattle.formula_reader.specs.declared.signs.Sign.TheVariants as signs
use Rattle.std.proofs.Common.{◌≡◌, ◌≤◌, ◌<◌, ℕ, nat_le, cond, Bool, true, false, List, [], ◌∷◌, ◌++◌, Option, Some, None, refl, sym, ap, ◌∙◌, subst, arith, ◌-◌, inl, inr, zero, suc, append_assoc, lit<}
use Rattle.std.specs.Prelude.{◌==◌}
use Rattle.std.proofs.lemmas.Bool.{cond-false, cond-true, eqb-true, leb-false, leb-true, ltb-true}
use Rattle.std.proofs.lemmas.Option.{same_Some, some_pair_parts}
use Rattle.calc_model.proofs.GrammarLevels.{level_some, loosened}
use Rattle.calc_model.specs.Grammar.{op_text, IsLevel, minus, op_level, operated, percent, plus}
use Rattle.calc_model.specs.declared.tree.Op.TheVariants.{Pow, Mul, Div, Add, Sub, Cat, Eq}
use Rattle.formula_reader.specs.declared.operators.Operator.{Operator}
use Rattle.formula_reader.specs.Unread.{Unread, beside, Read}
use Rattle.formula_reader.specs.Operators.{greater_at, less_at, level_of, operator_at, operator_taken, single_operator, up_to}
use Rattle.formula_reader.proofs.Steps.{Past, either, map_some, bind_some, repeat_says, taken_some, taken_none, some_or}
use Rattle.formula_reader.proofs.Complete.Levels.{level_behind, level_found}
use Rattle.calc_model.specs.Tokens.{are_blanks}
use Rattle.calc_model.specs.declared.tree.Op.{Op}
use Rattle.calc_model.specs.declared.tree.Tree.{Tree}
use Rattle.formula_reader.specs.declared.signs.Sign.{Sign}
use Rattle.formula_reader.specs.Signs.{sign_at, sign_read, sign_taken, signed_by}
use Rattle.formula_reader.specs.Operands.{Inside, attached, attached_by, behind_sign, comparison_at, infix_read, inside_at, more_made, operands_at, operator_behind, operators_behind, prefixed_at, prefixed_within, primary_at}
use Rattle.formula_reader.proofs.Turns.{operands_is}
use Rattle.formula_reader.proofs.Sound.Primaries.{Sound, Spelled, operator_joined, primary_sound}
use Rattle.formula_reader.proofs.TreeCounts.{OneMore, binary_counts, minus_counts, percent_counts, plus_counts}

abbrev pub operator_text : Operator → List ℕ
operator_text o.Percent = 37 ∷ []
operator_text (o.Infix op) = op_text op

-- the byte is this operator's
is_text : (byte c : ℕ) (made operator : Operator) → operator_text made ≡ c ∷ [] → (byte == c) ≡ true → Some made ≡ Some operator → byte ∷ [] ≡ operator_text operator
is_text byte c made operator text e h = ap (λ b. b ∷ []) (eqb-true byte c e) ∙ sym text ∙ ap operator_text (same_Some made operator h)

single_says : (byte : ℕ) (operator : Operator) → single_operator byte ≡ Some operator → byte ∷ [] ≡ operator_text operator
single_says byte operator h =
    let P : Type 0 = byte ∷ [] ≡ operator_text operator in
    either P (byte == 37) _ _ operator (is_text byte 37 o.Percent operator refl)
    (λ _ h. either P (byte == 94) _ _ operator (is_text byte 94 (o.Infix Pow) operator refl)
    (λ _ h. either P (byte == 42) _ _ operator (is_text byte 42 (o.Infix Mul) operator refl)
    (λ _ h. either P (byte == 47) _ _ operator (is_text byte 47 (o.Infix Div) operator refl)
    (λ _ h. either P (byte == 43) _ _ operator (is_text byte 43 (o.Infix Add) operator refl)
    (λ _ h. either P (byte == 45) _ _ operator (is_text byte 45 (o.Infix Sub) operator refl)
    (λ _ h. either P (byte == 38) _ _ operator (is_text byte 38 (o.Infix Cat) operator refl)
    (λ _ h. either P (byte == 61) _ _ operator (is_text byte 61 (o.Infix Eq) operator refl) (λ _ h. cc) h) h) h) h) h) h) h) h

abbrev parts_text : Operator × List ℕ → List ℕ
parts_text parts = operator_text parts.0 ++ parts.1

less_says : (rest : List ℕ) → 60 ∷ rest ≡ parts_text (less_at rest)
less_says [] = refl
less_says (byte ∷ rest) = go (byte == 62) (byte == 61) refl refl
  where
    go : (ne le : Bool) → (byte == 62) ≡ ne → (byte == 61) ≡ le → 60 ∷ byte ∷ rest ≡ parts_text (less_at (byte ∷ rest))
    go true le e f = ap (λ b. 60 ∷ b ∷ rest) (eqb-true byte 62 e) ∙ sym (ap parts_text (cond-true (byte == 62) _ _ e))
    go false true e f = ap (λ b. 60 ∷ b ∷ rest) (eqb-true byte 61 f) ∙ sym (ap parts_text (cond-false (byte == 62) _ _ e ∙ cond-true (byte == 61) _ _ f))
    go false false e f = sym (ap parts_text (cond-false (byte == 62) _ _ e ∙ cond-false (byte == 61) _ _ f))

greater_says : (rest : List ℕ) → 62 ∷ rest ≡ parts_text (greater_at rest)
greater_says [] = refl
greater_says (byte ∷ rest) = go (byte == 61) refl
  where
    go : (ge : Bool) → (byte == 61) ≡ ge → 62 ∷ byte ∷ rest ≡ parts_text (greater_at (byte ∷ rest))
    go true e = ap (λ b. 62 ∷ b ∷ rest) (eqb-true byte 61 e) ∙ sym (ap parts_text (cond-true (byte == 61) _ _ e))
    go false e = sym (ap parts_text (cond-false (byte == 61) _ _ e))

pub operator_says : (bytes : List ℕ) (found : Operator × List ℕ) → operator_at bytes ≡ Some found → bytes ≡ parts_text found
operator_says [] found h = cc
operator_says (byte ∷ rest) found h =
    let P : Type 0 = byte ∷ rest ≡ parts_text found in
    either P (byte == 60) (Some (less_at rest)) _ found
    (λ e k. ap (λ b. b ∷ rest) (eqb-true byte 60 e) ∙ less_says rest ∙ ap parts_text (same_Some (less_at rest) found k))
    (λ _ k. either P (byte == 62) (Some (greater_at rest)) _ found
    (λ e j. ap (λ b. b ∷ rest) (eqb-true byte 62 e) ∙ greater_says rest ∙ ap parts_text (same_Some (greater_at rest) found j))
    (λ _ j.
    let made = map_some (beside rest) (single_operator byte) found j in
    ap (λ front. front ++ rest) (single_says byte made.0 made.1) ∙ ap parts_text made.2) k) h

-- what the taking of an operator says
pub record Taken (level : ℕ) (unread : Unread) (operator : Operator) (after : Unread) : Type 0 where
  pub rest : List ℕ
  pub joined : unread.bytes ≡ operator_text operator ++ rest
  pub passed : Past unread.tokens rest after
  pub within : level_of operator ≤ level
  pub here : level_behind unread.bytes ≡ level_of operator

up_some : (level : ℕ) (o : Option (Operator × List ℕ)) (found : Operator × List ℕ) → up_to level o ≡ Some found → (o ≡ Some found) × (level_of found.0 ≤ level)
up_some level None found h = cc
up_some level (Some first) found h =
    let parts = some_or (nat_le (level_of first.0) level) (Some first) found h in
    (parts.1, subst (λ (f : Operator × List ℕ). level_of f.0 ≤ level) (same_Some first found parts.1) (leb-true (level_of first.0) level parts.0))

pub taken_says : (level : ℕ) (unread after : Unread) (operator : Operator) → operator_taken level unread ≡ Some (Some operator, after) → Taken level unread operator after
unfolding operator_taken
taken_says level unread after operator h =
    let taken = taken_some unread after operator (up_to level (operator_at unread.bytes)) h in
    let up = up_some level (operator_at unread.bytes) (operator, taken.rest) taken.is in
    record {
      rest = taken.rest;
      joined = operator_says unread.bytes (operator, taken.rest) up.0;
      passed = taken.passed;
      within = up.1;
      here = ap level_found up.0;
    }

-- where none is taken
up_none : (level : ℕ) (o : Option (Operator × List ℕ)) → level ≤ 6 → up_to level o ≡ None → level < level_found o
up_none level None most h = omega arith
up_none level (Some found) most h = by_level (nat_le (level_of found.0) level) refl h
  where
    by_level : (b : Bool) → nat_le (level_of found.0) level ≡ b → cond b (Some found) None ≡ None → level < level_of found.0
    by_level true e k = cc
    by_level false e k = leb-false (level_of found.0) level e

pub none_says : (level : ℕ) (unread after : Unread) → level ≤ 6 → operator_taken level unread ≡ Some (None, after) → (unread ≡ after) × (level < level_behind unread.bytes)
unfolding operator_taken
none_says level unread after most h =
    let none = taken_none unread after (up_to level (operator_at unread.bytes)) h in
    (none.1, up_none level (operator_at unread.bytes) most none.0)

found_level : (o : Option (Operator × List ℕ)) → 1 ≤ level_found o
found_level None = omega arith
found_level (Some found) = by_operator found.0
  where
    by_operator : (operator : Operator) → 1 ≤ level_of operator
    by_operator o.Percent = omega arith
    by_operator (o.Infix op) = let some = level_some op in omega arith

-- no operator is a sign
pub level_behind_some : (bytes : List ℕ) → 1 ≤ level_behind bytes
level_behind_some bytes = found_level (operator_at bytes)

-- a sign that is taken, and none
sign_byte : Sign → ℕ
sign_byte signs.Plus = 43
sign_byte signs.Minus = 45

record Signed (unread : Unread) (sign : Sign) (after : Unread) : Type 0 where
  rest : List ℕ
  joined : unread.bytes ≡ sign_byte sign ∷ rest
  passed : Past unread.tokens rest after

sign_in : (bytes rest : List ℕ) (sign : Sign) → sign_at bytes ≡ Some (sign, rest) → bytes ≡ sign_byte sign ∷ rest
unfolding sign_byte
sign_in [] rest sign h = cc
sign_in (byte ∷ bytes) rest sign h =
    either (byte ∷ bytes ≡ sign_byte sign ∷ rest) (byte == 43) (Some (signs.Plus, bytes)) _ (sign, rest)
    (λ e k. let parts = some_pair_parts signs.Plus sign bytes rest k in ap (λ b. b ∷ bytes) (eqb-true byte 43 e) ∙ ap (λ b. 43 ∷ b) parts.1 ∙ ap (λ s. sign_byte s ∷ rest) parts.0)
    (λ _ k. either (byte ∷ bytes ≡ sign_byte sign ∷ rest) (byte == 45) (Some (signs.Minus, bytes)) None (sign, rest)
    (λ e j. let parts = some_pair_parts signs.Minus sign bytes rest j in ap (λ b. b ∷ bytes) (eqb-true byte 45 e) ∙ ap (λ b. 45 ∷ b) parts.1 ∙ ap (λ s. sign_byte s ∷ rest) parts.0)
    (λ _ j. cc) k) h

-- what taking a sign gives: none, with nothing taken, or a sign
abbrev SignCase : Unread → Option Sign → Unread → Type 0
SignCase unread None after = unread ≡ after
SignCase unread (Some sign) after = Signed unread sign after

sign_case : (unread after : Unread) (sign : Option Sign) → sign_taken unread ≡ Some (sign, after) → SignCase unread sign after
unfolding sign_taken
sign_case unread after None h = (taken_none unread after (sign_at unread.bytes) h).1
sign_case unread after (Some sign) h =
    let taken = taken_some unread after sign (sign_at unread.bytes) h in
    record { rest = taken.rest; joined = sign_in unread.bytes taken.rest sign taken.is; passed = taken.passed }

-- the counts of a tree behind a sign, and that it stands behind it
sign_counts : (sign : Sign) (x : Tree) → OneMore (signed_by sign x) x
sign_counts signs.Plus x = plus_counts x
sign_counts signs.Minus x = minus_counts x

sign_level : (sign : Sign) (blanks text : List ℕ) (x : Tree) → are_blanks blanks ≡ true → IsLevel 0 text x → IsLevel 0 (sign_byte sign ∷ (blanks ++ text)) (signed_by sign x)
unfolding sign_byte
sign_level signs.Plus blanks text x all is = plus blanks all is
sign_level signs.Minus blanks text x all is = minus blanks all is

module _ (others : ℕ) (nested : Inside) (depth : ℕ) (sound : Sound others nested.read 6 depth) (may_open : nested.opens ≡ true → 0 < depth) (same_more : nested.more ≡ others) where
  -- prefix operators
  behind_sound : (rest : Unread → Read) → Sound others rest 0 (suc depth) → (unread after : Unread) (sign : Option Sign) (read : Tree × Unread) → SignCase unread sign after → behind_sign nested rest (sign, after) ≡ Some read → Spelled others 0 (suc depth) unread read.0 read.1
  behind_sound rest rest_sound unread after None read same h =
      primary_sound others nested depth sound may_open same_more unread read (subst (λ u. primary_at nested u ≡ Some read) (sym same) h)
  behind_sound rest rest_sound unread after (Some sign) read signed h =
      let inner = bind_some (rest after) (sign_read sign) read h in
      let s = rest_sound after inner.0 inner.1 in
      let x = inner.0.0 in
      let passed = signed.passed in
      let counts = sign_counts sign x in
      let made : (signed_by sign x, inner.0.1) ≡ read = same_Some (signed_by sign x, inner.0.1) read inner.2 in
      subst (λ (r : Tree × Unread). Spelled others 0 (suc depth) unread r.0 r.1) made record {
        text = sign_byte sign ∷ (passed.blanks ++ s.text);
        is_level = sign_level sign passed.blanks s.text x passed.are_blank s.is_level;
        joined = signed.joined ∙ ap (λ b. sign_byte sign ∷ b) (passed.joined ∙ ap (λ b. passed.blanks ++ b) s.joined ∙ sym (append_assoc passed.blanks s.text inner.0.1.bytes));
        tokens = omega arith;
        opens = omega arith;
        parameters = omega arith;
      }

  within_sound : (n : ℕ) → Sound others (prefixed_within nested n) 0 (suc depth)
  unfolding prefixed_within
  within_sound zero unread read h =
      let first = bind_some (sign_taken unread) (behind_sign nested (λ rest. None)) read h in
      behind_sound (λ rest. None) (λ u r none. cc) unread first.0.1 first.0.0 read (sign_case unread first.0.1 first.0.0 first.1) first.2
  within_sound (suc n) unread read h =
      let first = bind_some (sign_taken unread) (behind_sign nested (prefixed_within nested n)) read h in
      behind_sound (prefixed_within nested n) (within_sound n) unread first.0.1 first.0.0 read (sign_case unread first.0.1 first.0.0 first.1) first.2

  -- What is read up to a level is spelled so, and no operator up to the level is behind it that a token is left for.
  record UpTo (level : ℕ) (unread : Unread) (x : Tree) (after : Unread) : Type 0 where
    spelled : Spelled others level (suc depth) unread x after
    ended : 0 < after.tokens → level < level_behind after.bytes

  -- what stands before more operators: at a level that they allow, with no more tokens left than turns
  record Standing (level : ℕ) (start : Unread) (n : ℕ) (x : Tree) (after : Unread) : Type 0 where
    at_level : ℕ
    within : at_level ≤ level
    spelled : Spelled others at_level (suc depth) start x after
    allowed : 0 < after.tokens → at_level ≤ level_behind after.bytes
    turns : after.tokens ≤ n

  loosen : (k level : ℕ) (unread : Unread) (x : Tree) (after : Unread) → k ≤ level → Spelled others k (suc depth) unread x after → Spelled others level (suc depth) unread x after
  loosen k level unread x after within s = record {
    text = s.text;
    is_level = loosened s.text x level k within s.is_level;
    joined = s.joined;
    tokens = s.tokens;
    opens = s.opens;
    parameters = s.parameters;
  }

  percent_stands : (level n : ℕ) (start unread after : Unread) (x : Tree) → Taken level unread o.Percent after → Standing level start (suc n) x unread → Standing level start n (t.Percent x) after
  percent_stands level n start unread after x taken standing =
      let passed = taken.passed in
      let s = loosen standing.at_level 1 start x unread (subst (λ k. standing.at_level ≤ k) taken.here (standing.allowed (omega arith))) standing.spelled in
      let counts = percent_counts x in
      record {
        at_level = 1;
        within = taken.within;
        spelled = record {
          text = s.text ++ (37 ∷ passed.blanks);
          is_level = percent passed.blanks s.is_level passed.are_blank;
          joined = s.joined ∙ ap (λ b. s.text ++ b) (taken.joined ∙ ap (λ b. 37 ∷ b) passed.joined) ∙ sym (append_assoc s.text (37 ∷ passed.blanks) after.bytes);
          tokens = omega arith;
          opens = omega arith;
          parameters = omega arith;
        };
        allowed = λ some. level_behind_some after.bytes;
        turns = omega arith;
      }

  infix_stands : (level n : ℕ) (op : Op) (start unread middle after : Unread) (x y : Tree) → Taken level unread (o.Infix op) middle → Standing level start (suc n) x unread → UpTo (op_level op - 1) middle y after → Standing level start n (t.Binary op x y) after
  infix_stands level n op start unread middle after x y taken standing right =
      let passed = taken.passed in
      let some = level_some op in
      let s = loosen standing.at_level (op_level op) start x unread (subst (λ k. standing.at_level ≤ k) taken.here (standing.allowed (omega arith))) standing.spelled in
      let r = right.spelled in
      let counts = binary_counts op x y in
      let Left : ℕ → Type 0 = λ k. IsLevel k s.text x in
      let Whole : ℕ → Type 0 = λ k. IsLevel k (s.text ++ (op_text op ++ (passed.blanks ++ r.text))) (t.Binary op x y) in
      record {
        at_level = op_level op;
        within = taken.within;
        spelled = record {
          text = s.text ++ (op_text op ++ (passed.blanks ++ r.text));
          is_level = subst Whole (sym some) (operated op passed.blanks (subst Left some s.is_level) some passed.are_blank r.is_level);
          joined = operator_joined start.bytes s.text (op_text op) taken.rest passed.blanks middle.bytes r.text after.bytes unread.bytes s.joined taken.joined passed.joined r.joined;
          tokens = omega arith;
          opens = omega arith;
          parameters = omega arith;
        };
        allowed = λ there. let ended = right.ended there in omega arith;
        turns = omega arith;
      }

  module _ (level : ℕ) (most : level ≤ 6) (tighter : (k : ℕ) → k < level → (unread : Unread) (read : Tree × Unread) → operands_at nested k unread ≡ Some read → UpTo k unread read.0 read.1) where
    attached_stands : (n : ℕ) (operator : Operator) (start unread middle : Unread) (x : Tree) (read : Tree × Unread) → Taken level unread operator middle → Standing level start (suc n) x unread → attached (operands_at nested) operator x middle ≡ Some read → Standing level start n read.0 read.1
    attached_stands n o.Percent start unread middle x read taken standing h =
        subst (λ (r : Tree × Unread). Standing level start n r.0 r.1) (same_Some (t.Percent x, middle) read h) (percent_stands level n start unread middle x taken standing)
    attached_stands n (o.Infix op) start unread middle x read taken standing h =
        let some = level_some op in
        let right = bind_some (operands_at nested (op_level op - 1) middle) (infix_read (operands_at nested) op x) read h in
        let spelled = tighter (op_level op - 1) (omega arith) middle right.0 right.1 in
        subst (λ (r : Tree × Unread). Standing level start n r.0 r.1) (same_Some (t.Binary op x right.0.0, right.0.1) read right.2) (infix_stands level n op start unread middle right.0.1 x right.0.0 taken standing spelled)

    found_stands : (n : ℕ) (start unread middle after : Unread) (x y : Tree) (operator : Option Operator) → operator_taken level unread ≡ Some (operator, middle) → Standing level start (suc n) x unread → attached_by (operands_at nested) x (operator, middle) ≡ Some (Some y, after) → Standing level start n y after
    found_stands n start unread middle after x y None e standing h = let none = (some_pair_parts None (Some y) middle after h).0 in cc
    found_stands n start unread middle after x y (Some operator) e standing h =
        let made = bind_some (attached (operands_at nested) operator x middle) (more_made (operands_at nested)) (Some y, after) h in
        let parts = some_pair_parts (Some made.0.0) (Some y) made.0.1 after made.2 in
        let tree = same_Some made.0.0 y parts.0 in
        let left = parts.1 in
        let same : made.0 ≡ (y, after) = λ i. (tree i, left i) in
        subst (λ (r : Tree × Unread). Standing level start n r.0 r.1) same (attached_stands n operator start unread middle x made.0 (taken_says level unread middle operator e) standing made.1)

    turn_stands : (start : Unread) (n : ℕ) (x y : Tree) (unread after : Unread) → Standing level start (suc n) x unread → operator_behind (operands_at nested) level x unread ≡ Some (Some y, after) → Standing level start n y after
    unfolding operator_behind
    turn_stands start n x y unread after standing h =
        let first = bind_some (operator_taken level unread) (attached_by (operands_at nested) x) (Some y, after) h in
        found_stands n start unread first.0.1 after x y first.0.0 first.1 standing first.2

    -- where it ends, no operator up to the level is taken
    none_behind : (x : Tree) (unread middle after : Unread) (operator : Option Operator) → operator_taken level unread ≡ Some (operator, middle) → attached_by (operands_at nested) x (operator, middle) ≡ Some (None, after) → (unread ≡ after) × (level < level_behind unread.bytes)
    none_behind x unread middle after None e h =
        let none = none_says level unread middle most e in
        (none.0 ∙ (some_pair_parts None None middle after h).1, none.1)
    none_behind x unread middle after (Some operator) e h =
        let made = bind_some (attached (operands_at nested) operator x middle) (more_made (operands_at nested)) (None, after) h in
        let some = (some_pair_parts (Some made.0.0) None made.0.1 after made.2).0 in
        cc

    stopped : (x : Tree) (unread after : Unread) → operator_behind (operands_at nested) level x unread ≡ Some (None, after) → (unread ≡ after) × (level < level_behind unread.bytes)
    unfolding operator_behind
    stopped x unread after h =
        let first = bind_some (operator_taken level unread) (attached_by (operands_at nested) x) (None, after) h in
        none_behind x unread first.0.1 after first.0.0 first.1 first.2

    operators_sound : (start : Unread) (first read : Tree × Unread) → Spelled others 0 (suc depth) start first.0 first.1 → operators_behind (operands_at nested) level first ≡ Some read → UpTo level start read.0 read.1
    operators_sound start first read s h =
        let begun : Standing level start first.1.tokens first.0 first.1 = record { at_level = 0; within = omega arith; spelled = s; allowed = λ some. omega arith; turns = omega arith } in
        let end = repeat_says (operator_behind (operands_at nested) level) (λ x unread after e. (stopped x unread after e).0) (Standing level start) (turn_stands start) first.1.tokens first.0 read.0 first.1 read.1 begun h in
        let last = end.holds in
        record {
          spelled = loosen last.at_level level start read.0 read.1 last.within last.spelled;
          ended = elim end.stops [
            | inl stops ↦ λ some. (stopped read.0 read.1 read.1 stops).1
            | inr none ↦ λ some. absurd (omega arith)
          ];
        }

  read_up_to : (bound level : ℕ) → level < bound → level ≤ 6 → (unread : Unread) (read : Tree × Unread) → operands_at nested level unread ≡ Some read → UpTo level unread read.0 read.1
  read_up_to zero level less most unread read h = absurd (omega arith)
  read_up_to (suc bound) level less most unread read h =
      let first = bind_some (prefixed_at nested unread) (operators_behind (operands_at nested) level) read (sym (operands_is nested level unread) ∙ h) in
      operators_sound level most (λ k tight u r e. read_up_to bound k (omega arith) (omega arith) u r e) unread first.0 read (within_sound unread.tokens unread first.0 first.1) first.2

  comparisons_sound : Sound others (operands_at nested 6) 6 (suc depth)
  comparisons_sound unread read h = (read_up_to 7 6 (lit< tt) (lit< tt) unread read h).spelled

pub comparison_sound : (others depth : ℕ) → Sound others (comparison_at others depth) 6 depth
unfolding comparison_at
comparison_sound others zero unread read h = cc
comparison_sound others (suc depth) unread read h =
    comparisons_sound others (inside_at others depth) depth (comparison_sound others depth) (λ opens. ltb-true 0 depth opens) refl unread read h

pub inside_sound : (others depth : ℕ) → Sound others (operands_at (inside_at others depth) 6) 6 (suc depth)
inside_sound others depth = comparisons_sound others (inside_at others depth) depth (comparison_sound others depth) (λ opens. ltb-true 0 depth opens) refl

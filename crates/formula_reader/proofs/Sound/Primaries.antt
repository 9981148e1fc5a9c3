-- What is read as a primary is spelled so, within the limits.
use Rattle.calc_model.specs.declared.tree.Tree.TheVariants as t
use Rattle.std.proofs.Common.{◌≡◌, ◌≤◌, ◌<◌, ◌+◌, ℕ, suc, true, ◌&&◌, List, [], ◌∷◌, ◌++◌, length, Some, None, refl, sym, ap, ◌∙◌, subst, append_assoc, arith}
use Rattle.std.specs.Prelude.{option_map}
use Rattle.std.specs.List.{take_while}
use Rattle.std.proofs.lemmas.Bool.{and_parts}
use Rattle.std.proofs.lemmas.List.{length-append}
use Rattle.std.proofs.lemmas.Option.{same_Some, some_pair_parts}
use Rattle.byte_cuts.specs.Fronts.{behind}
use Rattle.calc_model.specs.Grammar.{AreArgs, AreSomeArgs, IsOperand, IsLevel, call, in_capitals, more, name, none, one, operand, parenthesis, primary, some}
use Rattle.calc_model.specs.Tokens.{is_identifier, is_in_identifier, is_name}
use Rattle.calc_model.specs.declared.tree.Tree.{Tree}
use Rattle.formula_reader.specs.declared.operands.Start.{Start}
use Rattle.formula_reader.specs.declared.operands.Start.TheVariants.{Operand, Parenthesis, Word}
use Rattle.formula_reader.specs.Leaves.{operand_at, taken, token_taken}
use Rattle.formula_reader.specs.Unread.{◌>>=◌, Read, Unread, beside, next_is, past, token_at}
use Rattle.formula_reader.specs.Operands.{Inside, arg_behind, args_at, call_behind, call_node, closed, more_args, name_of, primary_at, primary_by, pushed, start_of, word_behind}
use Rattle.formula_reader.proofs.Sound.Leaves.{operand_says}
use Rattle.formula_reader.proofs.Steps.{some_or, Past, bind_some, either, front_and_behind, map_some, past_says, repeat_says, token_says}
use Rattle.formula_reader.proofs.Complete.Levels.{call_parts, paren_parts}
use Rattle.formula_reader.proofs.TreeCounts.{all_tokens_push, args_tokens, call_counts, most_open, most_open_push, most_parameters, most_parameters_push, open_of, operand_counts, paren_counts, parameters_of, tokens_of}

-- A text of the level is read as the tree, its tokens are taken, fewer parentheses than the depth are open in it, and
-- its calls have no more parameters than so many others behind the first.
pub record Spelled (others k depth : ℕ) (unread : Unread) (x : Tree) (after : Unread) : Type 0 where
  pub text : List ℕ
  pub is_level : IsLevel k text x
  pub joined : unread.bytes ≡ text ++ after.bytes
  pub tokens : unread.tokens ≡ tokens_of x + after.tokens
  pub opens : open_of x < depth
  pub parameters : parameters_of x ≤ suc others

-- what is read is spelled so
abbrev pub Sound : ℕ → (Unread → Read) → ℕ → ℕ → Type 0
Sound others step k depth = (unread : Unread) (read : Tree × Unread) → step unread ≡ Some read → Spelled others k depth unread read.0 read.1

-- the bytes of a parenthesis, put together from its pieces
paren_joined : (bytes behind inner closing after first text last rest : List ℕ) → bytes ≡ 40 ∷ behind → behind ≡ first ++ inner → inner ≡ text ++ closing → closing ≡ 41 ∷ after → after ≡ last ++ rest → bytes ≡ 40 ∷ (first ++ (text ++ (41 ∷ (last ++ rest))))
paren_joined bytes behind inner closing after first text last rest a b c d e =
    a ∙ ap (λ t. 40 ∷ t) (b ∙ ap (λ t. first ++ t) (c ∙ ap (λ t. text ++ t) (d ∙ ap (λ t. 41 ∷ t) e)))

-- a text behind an operator, and what stands before and behind both
pub operator_joined : (bytes front operator behind blanks middle text rest : List ℕ) (back : List ℕ) → bytes ≡ front ++ back → back ≡ operator ++ behind → behind ≡ blanks ++ middle → middle ≡ text ++ rest → bytes ≡ (front ++ (operator ++ (blanks ++ text))) ++ rest
operator_joined bytes front operator behind blanks middle text rest back a b c d =
    a
    ∙ ap (λ t. front ++ t) (b ∙ ap (λ t. operator ++ t) (c ∙ ap (λ t. blanks ++ t) d ∙ sym (append_assoc blanks text rest)) ∙ sym (append_assoc operator (blanks ++ text) rest))
    ∙ sym (append_assoc front (operator ++ (blanks ++ text)) rest)

-- an operand by itself
taken_operand : (others depth : ℕ) (unread : Unread) (x : Tree) (token rest : List ℕ) (read : Tree × Unread) → IsOperand token x → unread.bytes ≡ token ++ rest → taken unread.tokens (x, rest) ≡ Some read → Spelled others 0 (suc depth) unread read.0 read.1
taken_operand others depth unread x token rest read is joined h =
    let last = map_some (λ (after : Unread). (x, after)) (past unread.tokens rest) read h in
    let passed = past_says unread.tokens rest last.0 last.1 in
    let counts = operand_counts is in
    subst (λ (r : Tree × Unread). Spelled others 0 (suc depth) unread r.0 r.1) last.2 record {
      text = token ++ passed.blanks;
      is_level = primary (operand passed.blanks is passed.are_blank);
      joined = joined ∙ ap (λ b. token ++ b) passed.joined ∙ sym (append_assoc token passed.blanks last.0.bytes);
      tokens = omega arith;
      opens = omega arith;
      parameters = omega arith;
    }

operand_sound : (others depth : ℕ) (unread : Unread) (read : Tree × Unread) → token_taken unread.tokens (operand_at unread.bytes) ≡ Some read → Spelled others 0 (suc depth) unread read.0 read.1
operand_sound others depth unread read h =
    let first = bind_some (operand_at unread.bytes) (taken unread.tokens) read h in
    let found = operand_says unread.bytes first.0.1 first.0.0 first.1 in
    taken_operand others depth unread first.0.0 found.token first.0.1 read found.is_operand found.joined first.2

-- parameters that are read, with how many more there may be
record ArgsSoFar (others depth : ℕ) (start : Unread) (left : ℕ) (args : List Tree) (after : Unread) : Type 0 where
  text : List ℕ
  are_args : AreSomeArgs text args
  joined : start.bytes ≡ text ++ after.bytes
  tokens : start.tokens ≡ args_tokens args + after.tokens
  opens : most_open args < depth
  parameters : most_parameters args ≤ suc others
  some : 1 ≤ length args
  count : length args + left ≤ suc others

record Args (others depth : ℕ) (unread : Unread) (args : List Tree) (after : Unread) : Type 0 where
  text : List ℕ
  are_args : AreArgs text args
  joined : unread.bytes ≡ text ++ after.bytes
  tokens : unread.tokens ≡ args_tokens args + after.tokens
  opens : most_open args < depth
  parameters : most_parameters args ≤ suc others
  count : length args ≤ suc others

module _ (others : ℕ) (comparison : Unread → Read) (depth : ℕ) (sound : Sound others comparison 6 depth) where
  arg_stays : (args : List Tree) (unread after : Unread) → arg_behind comparison args unread ≡ Some (None, after) → unread ≡ after
  unfolding arg_behind
  arg_stays args unread after h =
      either (unread ≡ after) (next_is 59 unread.bytes) (token_at 59 unread >>= comparison >>= pushed comparison args) (Some (None, unread)) (None, after)
      (λ _ e.
      let read = (bind_some (token_at 59 unread >>= comparison) (pushed comparison args) (None, after) e) in
      let other = (some_pair_parts (Some (args ++ read.0.0 ∷ [])) None read.0.1 after read.2).0 in
      cc)
      (λ _ e. (some_pair_parts None None unread after e).1) h

  arg_sound : (start : Unread) (n : ℕ) (args next : List Tree) (unread after : Unread) → ArgsSoFar others depth start (suc n) args unread → arg_behind comparison args unread ≡ Some (Some next, after) → ArgsSoFar others depth start n next after
  unfolding arg_behind
  arg_sound start n args next unread after so_far h =
      either (ArgsSoFar others depth start n next after) (next_is 59 unread.bytes) (token_at 59 unread >>= comparison >>= pushed comparison args) (Some (None, unread)) (Some next, after)
      (λ _ e. more_read e) (λ _ e. let other = (some_pair_parts None (Some next) unread after e).0 in cc) h
    where
      more_read : (token_at 59 unread >>= comparison >>= pushed comparison args) ≡ Some (Some next, after) → ArgsSoFar others depth start n next after
      more_read e =
          let second = bind_some (token_at 59 unread >>= comparison) (pushed comparison args) (Some next, after) e in
          let first = bind_some (token_at 59 unread) comparison second.0 second.1 in
          let token = token_says 59 unread first.0 first.1 in
          let passed = token.passed in
          let x = second.0.0 in
          let s = sound first.0 second.0 first.2 in
          let parts = some_pair_parts (Some (args ++ x ∷ [])) (Some next) second.0.1 after second.2 in
          let grown = same_Some (args ++ x ∷ []) next parts.0 in
          let left = parts.1 in
          let made : (args ++ x ∷ [], second.0.1) ≡ (next, after) = λ i. (grown i, left i) in
          let back = 59 ∷ (passed.blanks ++ s.text) in
          let added = all_tokens_push args x in
          let len : length (args ++ x ∷ []) ≡ length args + 1 = length-append args (x ∷ []) in
          let opened = most_open_push args x in
          let most = most_parameters_push args x in
          subst (λ (r : List Tree × Unread). ArgsSoFar others depth start n r.0 r.1) made record {
            text = so_far.text ++ back;
            are_args = more passed.blanks so_far.are_args passed.are_blank s.is_level;
            joined = operator_joined start.bytes so_far.text (59 ∷ []) token.rest passed.blanks first.0.bytes s.text second.0.1.bytes unread.bytes so_far.joined token.joined passed.joined s.joined;
            tokens = omega arith;
            opens = omega arith;
            parameters = omega arith;
            some = omega arith;
            count = omega arith;
          }

  more_sound : (unread : Unread) (first : Tree × Unread) (read : List Tree × Unread) → Spelled others 6 depth unread first.0 first.1 → more_args comparison others first ≡ Some read → Args others depth unread read.0 read.1
  more_sound unread first read s h =
      let begun : ArgsSoFar others depth unread others (first.0 ∷ []) first.1 = record {
        text = s.text;
        are_args = one s.is_level;
        joined = s.joined;
        tokens = omega arith;
        opens = omega arith;
        parameters = omega arith;
        some = omega arith;
        count = omega arith;
      } in
      let ended = repeat_says (arg_behind comparison) arg_stays (ArgsSoFar others depth unread) (arg_sound unread) others (first.0 ∷ []) read.0 first.1 read.1 begun h in
      let last = ended.holds in
      record {
        text = last.text;
        are_args = some last.are_args;
        joined = last.joined;
        tokens = last.tokens;
        opens = last.opens;
        parameters = last.parameters;
        count = omega arith;
      }

module _ (others : ℕ) (nested : Inside) (depth : ℕ) (sound : Sound others nested.read 6 depth) (may_open : nested.opens ≡ true → 0 < depth) (same_more : nested.more ≡ others) where
  args_sound : (unread : Unread) (read : List Tree × Unread) → 0 < depth → args_at nested unread ≡ Some read → Args others depth unread read.0 read.1
  unfolding args_at
  args_sound unread read free h =
      either (Args others depth unread read.0 read.1) (next_is 41 unread.bytes) (Some ([], unread)) (nested.read unread >>= more_args nested.read nested.more) read
      (λ _ e. subst (λ (r : List Tree × Unread). Args others depth unread r.0 r.1) (same_Some ([], unread) read e) record {
        text = [];
        are_args = none;
        joined = refl;
        tokens = omega arith;
        opens = free;
        parameters = omega arith;
        count = omega arith;
      })
      (λ _ e.
      let first = bind_some (nested.read unread) (more_args nested.read nested.more) read e in
      more_sound others nested.read depth sound unread first.0 read (sound unread first.0 first.1) (ap (λ n. more_args nested.read n first.0) (sym same_more) ∙ first.2)) h

  -- a word, of which the blanks behind it are passed over
  record Worded (word : List ℕ) (unread after : Unread) : Type 0 where
    passed : Past unread.tokens (behind is_in_identifier unread.bytes) after
    joined : unread.bytes ≡ word ++ behind is_in_identifier unread.bytes

  -- a call behind its word
  call_sound : (word : List ℕ) (unread after : Unread) (read : Tree × Unread) → Worded word unread after → (is_identifier word && nested.opens) ≡ true → (token_at 40 after >>= args_at nested >>= closed (call_node nested word)) ≡ Some read → Spelled others 0 (suc depth) unread read.0 read.1
  call_sound word unread after read w allowed h =
      let may = and_parts (is_identifier word) nested.opens allowed in
      let passed = w.passed in
      let third = bind_some (token_at 40 after >>= args_at nested) (closed (call_node nested word)) read h in
      let second = bind_some (token_at 40 after) (args_at nested) third.0 third.1 in
      let opening = token_says 40 after second.0 second.1 in
      let inside = args_sound second.0 third.0 (may_open may.1) second.2 in
      let args = third.0.0 in
      let last = map_some (λ (u : Unread). (call_node nested word args, u)) (token_at 41 third.0.1) read third.2 in
      let closing = token_says 41 third.0.1 last.0 last.1 in
      let counts = call_counts (in_capitals word) args in
      let front = opening.passed.blanks in
      let back = closing.passed.blanks in
      let inner = paren_joined after.bytes opening.rest second.0.bytes third.0.1.bytes closing.rest front inside.text back last.0.bytes opening.joined opening.passed.joined inside.joined closing.joined closing.passed.joined in
      subst (λ (r : Tree × Unread). Spelled others 0 (suc depth) unread r.0 r.1) last.2 record {
        text = word ++ (passed.blanks ++ (40 ∷ (front ++ (inside.text ++ (41 ∷ back)))));
        is_level = primary (call word passed.blanks front back may.0 passed.are_blank opening.passed.are_blank inside.are_args closing.passed.are_blank);
        joined = w.joined ∙ ap (λ t. word ++ t) (passed.joined ∙ ap (λ t. passed.blanks ++ t) inner) ∙ sym (call_parts word passed.blanks front inside.text back last.0.bytes);
        tokens = omega arith;
        opens = omega arith;
        parameters = omega arith;
      }

  name_sound : (word : List ℕ) (unread after : Unread) (read : Tree × Unread) → past unread.tokens (behind is_in_identifier unread.bytes) ≡ Some after → unread.bytes ≡ word ++ behind is_in_identifier unread.bytes → option_map (beside after) (name_of word) ≡ Some read → Spelled others 0 (suc depth) unread read.0 read.1
  name_sound word unread after read passed joined h =
      let made = map_some (beside after) (name_of word) read h in
      let some = some_or (is_name word) (Some (t.Name word)) made.0 made.1 in
      let same : t.Name word ≡ made.0 = same_Some (t.Name word) made.0 some.1 in
      taken_operand others depth unread (t.Name word) word (behind is_in_identifier unread.bytes) read (name word some.0) joined
      (ap (option_map (λ (u : Unread). (t.Name word, u))) passed ∙ ap Some (ap (λ x. (x, after)) same ∙ made.2))

  word_sound : (word : List ℕ) (unread after : Unread) (read : Tree × Unread) → past unread.tokens (behind is_in_identifier unread.bytes) ≡ Some after → unread.bytes ≡ word ++ behind is_in_identifier unread.bytes → word_behind nested word after ≡ Some read → Spelled others 0 (suc depth) unread read.0 read.1
  unfolding word_behind
  word_sound word unread after read passed joined h =
      either (Spelled others 0 (suc depth) unread read.0 read.1) (next_is 40 after.bytes) (call_behind nested word after) (option_map (beside after) (name_of word)) read
      (λ _ e.
      let may = some_or (is_identifier word && nested.opens) (token_at 40 after >>= args_at nested >>= closed (call_node nested word)) read e in
      call_sound word unread after read (record { passed = past_says unread.tokens (behind is_in_identifier unread.bytes) after passed; joined = joined }) may.0 may.1)
      (λ _ e. name_sound word unread after read passed joined e) h

  primary_by_sound : (s : Start) (unread : Unread) (read : Tree × Unread) → primary_by nested s unread ≡ Some read → Spelled others 0 (suc depth) unread read.0 read.1
  primary_by_sound Parenthesis unread read h =
      let third = bind_some (token_at 40 unread >>= nested.read) (closed t.Paren) read h in
      let second = bind_some (token_at 40 unread) nested.read third.0 third.1 in
      let opening = token_says 40 unread second.0 second.1 in
      let inside = sound second.0 third.0 second.2 in
      let x = third.0.0 in
      let last = map_some (λ (u : Unread). (t.Paren x, u)) (token_at 41 third.0.1) read third.2 in
      let closing = token_says 41 third.0.1 last.0 last.1 in
      let counts = paren_counts x in
      let front = opening.passed.blanks in
      let back = closing.passed.blanks in
      let inner = paren_joined unread.bytes opening.rest second.0.bytes third.0.1.bytes closing.rest front inside.text back last.0.bytes opening.joined opening.passed.joined inside.joined closing.joined closing.passed.joined in
      subst (λ (r : Tree × Unread). Spelled others 0 (suc depth) unread r.0 r.1) last.2 record {
        text = 40 ∷ (front ++ (inside.text ++ (41 ∷ back)));
        is_level = primary (parenthesis front back opening.passed.are_blank inside.is_level closing.passed.are_blank);
        joined = inner ∙ sym (paren_parts front inside.text back last.0.bytes);
        tokens = omega arith;
        opens = omega arith;
        parameters = omega arith;
      }
  primary_by_sound Word unread read h =
      let word = take_while is_in_identifier unread.bytes in
      let first = bind_some (past unread.tokens (behind is_in_identifier unread.bytes)) (word_behind nested word) read h in
      word_sound word unread first.0 read first.1 (front_and_behind is_in_identifier unread.bytes) first.2
  primary_by_sound Operand unread read h = operand_sound others depth unread read h

  pub primary_sound : Sound others (primary_at nested) 0 (suc depth)
  unfolding primary_at
  primary_sound unread read h = primary_by_sound (start_of unread.bytes) unread read h

-- How operands, parentheses and calls are read where something may follow them.
use Rattle.calc_model.specs.declared.tree.Tree.TheVariants as t
use Rattle.std.proofs.Common.{◌≡◌, ◌+◌, ℕ, true, false, ◌||◌, ◌&&◌, List, [], ◌∷◌, ◌++◌, Some, codes, refl, ap, ◌∙◌, append_assoc, arith}
use Rattle.std.specs.Prelude.{◌==◌, option_map}
use Rattle.std.specs.Char.{is_ascii_digit}
use Rattle.std.specs.List.{take_while}
use Rattle.std.proofs.lemmas.Bool.{and_from, cond-false, cond-true}
use Rattle.std.proofs.lemmas.Bool.Decides.{nat_tests}
use Rattle.calc_num.specs.Spelling.{reading}
use Rattle.calc_model.specs.Grammar.{IsOperand, is_signed, error, large_number, name, number, reference, string}
use Rattle.calc_model.specs.Tokens.{are_blanks, begins_identifier, is_blank, is_identifier, is_in_identifier, is_name, quoted}
use Rattle.calc_model.specs.ValueTexts.{fault_text}
use Rattle.calc_model.specs.Contents.{is_error_constant}
use Rattle.calc_model.specs.declared.fault.Fault.{Fault}
use Rattle.calc_model.specs.declared.fault.Fault.TheVariants.{Over}
use Rattle.calc_model.specs.declared.tree.Tree.{Tree}
use Rattle.formula_reader.specs.declared.operands.Start.TheVariants.{Operand, Word}
use Rattle.formula_reader.specs.Leaves.{error_at, number_at, number_tree, operand_at, token_taken}
use Rattle.formula_reader.specs.Unread.{◌>>=◌, Unread, beside, next_is, past}
use Rattle.formula_reader.specs.Operands.{Inside, args_at, call_node, closed, primary_at, primary_by, start_of, word_behind}
use Rattle.formula_reader.proofs.Complete.Beginnings.{behind_blanks, identifier_begins, identifier_bytes, is_number_start, number_begins}
use Rattle.formula_reader.proofs.Complete.Leaves.{each_error, error_in_front, Follows, Stops, Stops-append, is_no_stop, past-blanks, past-token, number_in_front, quoted_parts, string_in_front, bracketed_parts, reference_in_front}
use Rattle.byte_cuts.specs.Fronts.{begins}
use Rattle.byte_cuts.proofs.Fronts.{begins-append, begins_less, behind-all, take_while-all}
use Rattle.formula_reader.proofs.Steps.{at}
use Rattle.formula_reader.proofs.Identifiers.{name_is_identifier}

-- the token is read as an operand by itself
record AsOperand (text rest : List ℕ) (x : Tree) : Type 0 where
  starts : start_of (text ++ rest) ≡ Operand
  reads : operand_at (text ++ rest) ≡ Some (x, rest)

record NumberByte (byte : ℕ) : Type 0 where
  parenthesis : (byte == 40) ≡ false
  word : begins_identifier byte ≡ false
  quote : (byte == 34) ≡ false
  bracket : (byte == 91) ≡ false
  hash : (byte == 35) ≡ false

number_byte : (byte : ℕ) → is_number_start byte ≡ true → NumberByte byte
number_byte byte h = record {
  parenthesis = grind (arith, nat_tests);
  word = grind (arith, nat_tests);
  quote = grind (arith, nat_tests);
  bracket = grind (arith, nat_tests);
  hash = grind (arith, nat_tests);
}

number_starts : (text : List ℕ) → begins is_number_start text ≡ true → (start_of text ≡ Operand) × (operand_at text ≡ number_at text)
number_starts [] h = cc
number_starts (byte ∷ rest) h =
    let other = number_byte byte h in (
      cond-false (byte == 40) _ _ other.parenthesis ∙ cond-false (begins_identifier byte) _ _ other.word,
      cond-false (byte == 34) _ _ other.quote ∙ cond-false (byte == 91) _ _ other.bracket ∙ cond-false (byte == 35) _ _ other.hash ∙ cond-true (is_ascii_digit byte || (byte == 46)) _ _ h,
    )

number_operand : (text rest : List ℕ) (x : Tree) → Stops rest → is_signed text ≡ false → number_tree (reading text) ≡ Some x → AsOperand text rest x
number_operand text rest x stops sign e =
    let starts = number_starts (text ++ rest) (begins-append is_number_start text rest (number_begins text x sign e)) in
    record { starts = starts.0; reads = starts.1 ∙ number_in_front text rest x stops sign e }

error_starts : (fault : Fault) (rest : List ℕ) → is_error_constant fault ≡ true → (start_of (fault_text fault ++ rest) ≡ Operand) × (operand_at (fault_text fault ++ rest) ≡ error_at (fault_text fault ++ rest))
error_starts fault rest h = each_error (λ f. (start_of (fault_text f ++ rest) ≡ Operand) × (operand_at (fault_text f ++ rest) ≡ error_at (fault_text f ++ rest)))
    (refl, refl) (refl, refl) (refl, refl) (refl, refl) (refl, refl) (refl, refl) (refl, refl) (refl, refl) fault h

identifier_no_parenthesis : (byte : ℕ) → begins_identifier byte ≡ true → (byte == 40) ≡ false
identifier_no_parenthesis byte h = grind (arith, nat_tests)

word_starts : (text : List ℕ) → begins begins_identifier text ≡ true → start_of text ≡ Word
word_starts [] h = cc
word_starts (byte ∷ rest) h = cond-false (byte == 40) _ _ (identifier_no_parenthesis byte h) ∙ cond-true (begins_identifier byte) _ _ h

stop_in_identifier : (byte : ℕ) → is_no_stop byte ≡ false → is_in_identifier byte ≡ false
stop_in_identifier byte h = grind (arith, nat_tests)

module _ (nested : Inside) where
  -- a word, and what stands behind it
  pub word_in_front : (word behind : List ℕ) (l : Unread) (n : ℕ) → is_identifier word ≡ true → begins is_in_identifier behind ≡ false → past n behind ≡ Some l → primary_at nested (at (word ++ behind) n) ≡ word_behind nested word l
  unfolding primary_at
  word_in_front word rest l n h ends e =
      let bytes = word ++ rest in
      let all = identifier_bytes word h in
      ap (λ start. primary_by nested start (at bytes n)) (word_starts bytes (begins-append begins_identifier word rest (identifier_begins word h)))
      ∙ ap (λ r. past n r >>= word_behind nested (take_while is_in_identifier bytes)) (behind-all is_in_identifier word rest all ends)
      ∙ ap (λ w. past n rest >>= word_behind nested w) (take_while-all is_in_identifier word rest all ends)
      ∙ ap (λ o. o >>= word_behind nested word) e

  follow_no_parenthesis : (rest : List ℕ) → Follows rest → next_is 40 rest ≡ false
  follow_no_parenthesis [] h = refl
  follow_no_parenthesis (byte ∷ rest) h = grind (arith, nat_tests)

  name_behind : (word : List ℕ) (l : Unread) → next_is 40 l.bytes ≡ false → is_name word ≡ true → word_behind nested word l ≡ Some (t.Name word, l)
  unfolding word_behind
  name_behind word l other h = cond-false (next_is 40 l.bytes) _ _ other ∙ ap (option_map (beside l)) (cond-true (is_name word) _ _ h)

  as_operand : (text blanks rest : List ℕ) (x : Tree) (m n : ℕ) → n ≡ 1 + m → are_blanks blanks ≡ true → Follows rest → AsOperand text (blanks ++ rest) x → primary_at nested (at ((text ++ blanks) ++ rest) n) ≡ Some (x, at rest m)
  unfolding primary_at
  as_operand text blanks rest x m n tokens all follows h =
      ap (λ bytes. primary_by nested (start_of bytes) (at bytes n)) (append_assoc text blanks rest)
      ∙ ap (λ start. primary_by nested start (at (text ++ (blanks ++ rest)) n)) h.starts
      ∙ ap (token_taken n) h.reads
      ∙ ap (λ o. option_map (λ (l : Unread). (x, l)) o) (past-token blanks rest m n tokens all follows)

  -- an operand by itself is read where something may follow it
  pub operand_read : {text : List ℕ} {x : Tree} (blanks rest : List ℕ) (m n : ℕ) → IsOperand text x → n ≡ 1 + m → are_blanks blanks ≡ true → Follows rest → primary_at nested (at ((text ++ blanks) ++ rest) n) ≡ Some (x, at rest m)
  operand_read blanks rest m n (number text k s r) tokens all follows =
      as_operand text blanks rest (t.Number k) m n tokens all follows (number_operand text (blanks ++ rest) (t.Number k) (Stops-append blanks rest all follows) s (ap number_tree r))
  operand_read blanks rest m n (large_number text s r) tokens all follows =
      as_operand text blanks rest (t.Bad Over) m n tokens all follows (number_operand text (blanks ++ rest) (t.Bad Over) (Stops-append blanks rest all follows) s (ap number_tree r))
  operand_read blanks rest m n (string text u) tokens all follows =
      as_operand (quoted text) blanks rest (t.Words text) m n tokens all follows record {
        starts = ap start_of (quoted_parts text (blanks ++ rest));
        reads = ap operand_at (quoted_parts text (blanks ++ rest)) ∙ string_in_front text (blanks ++ rest) (Stops-append blanks rest all follows) u;
      }
  operand_read blanks rest m n (reference text r e) tokens all follows =
      as_operand (codes "[" ++ text ++ codes "]") blanks rest (t.Ref r) m n tokens all follows record {
        starts = ap start_of (bracketed_parts text (blanks ++ rest));
        reads = ap operand_at (bracketed_parts text (blanks ++ rest)) ∙ reference_in_front text (blanks ++ rest) r e;
      }
  operand_read blanks rest m n (error fault e) tokens all follows =
      let starts = error_starts fault (blanks ++ rest) e in
      as_operand (fault_text fault) blanks rest (t.Bad fault) m n tokens all follows record { starts = starts.0; reads = starts.1 ∙ error_in_front fault (blanks ++ rest) e }
  operand_read blanks rest m n (name word h) tokens all follows =
      let ends = begins_less is_in_identifier is_no_stop (blanks ++ rest) stop_in_identifier (Stops-append blanks rest all follows) in
      ap (λ bytes. primary_at nested (at bytes n)) (append_assoc word blanks rest)
      ∙ word_in_front word (blanks ++ rest) (at rest m) n (name_is_identifier word h) ends (past-token blanks rest m n tokens all follows)
      ∙ name_behind word (at rest m) (follow_no_parenthesis rest follows) h

  call_opens : (word inside : List ℕ) (n : ℕ) → (is_identifier word && nested.opens) ≡ true → word_behind nested word (at (40 ∷ inside) n) ≡ (past n inside >>= args_at nested >>= closed (call_node nested word))
  unfolding word_behind
  call_opens word inside n h = cond-true (is_identifier word && nested.opens) _ _ h

  blank_no_identifier : (byte : ℕ) → is_blank byte ≡ true → is_in_identifier byte ≡ false
  blank_no_identifier byte h = grind (arith, nat_tests)

  -- a call, by what its parameters are read as
  pub call_read : (word blanks first text last rest : List ℕ) (args : List Tree) (m inside n : ℕ) → is_identifier word ≡ true → nested.opens ≡ true → are_blanks blanks ≡ true → are_blanks first ≡ true → are_blanks last ≡ true
      → begins is_blank (text ++ (41 ∷ (last ++ rest))) ≡ false → Follows rest → n ≡ 2 + inside
      → args_at nested (at (text ++ (41 ∷ (last ++ rest))) inside) ≡ Some (args, at (41 ∷ (last ++ rest)) (1 + m))
      → primary_at nested (at (word ++ (blanks ++ (40 ∷ (first ++ (text ++ (41 ∷ (last ++ rest))))))) n) ≡ Some (call_node nested word args, at rest m)
  call_read word blanks first text last rest args m inside n h opens a b c none follows tokens reads =
      let back = text ++ (41 ∷ (last ++ rest)) in
      let ends = behind_blanks is_in_identifier blanks (40 ∷ (first ++ back)) blank_no_identifier a refl in
      word_in_front word (blanks ++ (40 ∷ (first ++ back))) (at (40 ∷ (first ++ back)) (1 + inside)) n h ends (past-blanks blanks (40 ∷ (first ++ back)) (1 + inside) n (omega arith) a refl)
      ∙ call_opens word (first ++ back) (1 + inside) (and_from (is_identifier word) nested.opens h opens)
      ∙ ap (λ o. o >>= args_at nested >>= closed (call_node nested word)) (past-blanks first back inside (1 + inside) refl b none)
      ∙ ap (λ o. o >>= closed (call_node nested word)) reads
      ∙ ap (λ o. option_map (λ (l : Unread). (call_node nested word args, l)) o) (past-token last rest m (1 + m) refl c follows)

  -- a parenthesis, by what stands inside
  pub paren_read : (first text last rest : List ℕ) (x : Tree) (m inside n : ℕ) → are_blanks first ≡ true → are_blanks last ≡ true → begins is_blank (text ++ (41 ∷ (last ++ rest))) ≡ false → Follows rest → n ≡ 1 + inside
      → nested.read (at (text ++ (41 ∷ (last ++ rest))) inside) ≡ Some (x, at (41 ∷ (last ++ rest)) (1 + m))
      → primary_at nested (at (40 ∷ (first ++ (text ++ (41 ∷ (last ++ rest))))) n) ≡ Some (t.Paren x, at rest m)
  unfolding primary_at
  paren_read first text last rest x m inside n b c none follows tokens reads =
      let back = text ++ (41 ∷ (last ++ rest)) in
      ap (λ o. o >>= nested.read >>= closed t.Paren) (past-blanks first back inside n tokens b none)
      ∙ ap (λ o. o >>= closed t.Paren) reads
      ∙ ap (λ o. option_map (λ (l : Unread). (t.Paren x, l)) o) (past-token last rest m (1 + m) refl c follows)

-- What is read as an operand by itself is the token of one.
use Rattle.calc_num.specs.declared.parse.Reading.TheVariants as readings
use Rattle.calc_model.specs.declared.tree.Tree.TheVariants as t
use Rattle.std.proofs.Common.{◌≡◌, ◌+◌, ℕ, zero, suc, Bool, true, false, not, ◌||◌, nat_eq, cond, List, [], ◌∷◌, ◌++◌, length, take, drop, codes, Option, Some, None, refl, sym, ap, ◌∙◌, subst, append_assoc, arith}
use Rattle.std.specs.Prelude.{◌==◌, option_map}
use Rattle.std.specs.Char.{is_ascii_digit}
use Rattle.std.specs.List.{after_first, before_first, find, flat_map, list_all, list_any, starts_with}
use Rattle.std.specs.Str.{is_utf8}
use Rattle.std.proofs.lemmas.Bool.{and_parts, cond-false, eqb-true}
use Rattle.std.proofs.lemmas.Bool.Decides.{nat_tests}
use Rattle.std.proofs.lemmas.List.{take-append-drop}
use Rattle.std.proofs.lemmas.Option.{same_Some, some_pair_parts}
use Rattle.std.proofs.lemmas.Slice.Eq.{bytes_eq-Decides}
use Rattle.calc_num.specs.Fronts.{unsigned_len}
use Rattle.calc_num.specs.Spelling.{reading}
use Rattle.calc_num.specs.declared.parse.Reading.{Reading}
use Rattle.calc_addr.specs.Bracketed.{spelled_reference}
use Rattle.calc_model.specs.Contents.{is_error_constant}
use Rattle.calc_model.specs.Field.{error_constants}
use Rattle.calc_model.specs.Grammar.{IsOperand, error, is_signed, large_number, number, reference, string}
use Rattle.calc_model.specs.Tokens.{doubled, quoted}
use Rattle.calc_model.specs.ValueTexts.{fault_text}
use Rattle.calc_model.specs.declared.fault.Fault.{Fault}
use Rattle.calc_model.specs.declared.fault.Fault.TheVariants.{Over}
use Rattle.calc_model.specs.declared.tree.Tree.{Tree}
use Rattle.formula_reader.specs.Leaves.{error_at, error_tree, is_closing, number_at, number_tree, operand_at, prepend, reference_at, reference_tree, string_at, unquoted, words_of}
use Rattle.formula_reader.specs.Unread.{beside}
use Rattle.formula_reader.proofs.Steps.{some_or, bind_some, either, map_some}
use Rattle.formula_reader.proofs.Complete.Leaves.{quoted_parts, bracketed_parts}

-- the token in front, and what stands behind it
pub record Found (bytes : List ℕ) (x : Tree) (rest : List ℕ) : Type 0 where
  pub token : List ℕ
  pub is_operand : IsOperand token x
  pub joined : bytes ≡ token ++ rest

-- numbers
number_is : (text : List ℕ) (x : Tree) (r : Reading) → is_signed text ≡ false → reading text ≡ r → number_tree r ≡ Some x → IsOperand text x
number_is text x (readings.Number n) sign e h = subst (IsOperand text) (same_Some (t.Number n) x h) (number text n sign e)
number_is text x readings.TooLarge sign e h = subst (IsOperand text) (same_Some (t.Bad Over) x h) (large_number text sign e)
number_is text x readings.NotNumber sign e h = cc

digit_no_sign : (byte : ℕ) → (is_ascii_digit byte || (byte == 46)) ≡ true → ((byte == 43) || (byte == 45)) ≡ false
digit_no_sign byte h = grind (arith, nat_tests)

take_no_sign : (n byte : ℕ) (rest : List ℕ) → (is_ascii_digit byte || (byte == 46)) ≡ true → is_signed (take n (byte ∷ rest)) ≡ false
take_no_sign zero byte rest h = refl
take_no_sign (suc n) byte rest h = digit_no_sign byte h

number_says : (byte : ℕ) (bytes rest : List ℕ) (x : Tree) → (is_ascii_digit byte || (byte == 46)) ≡ true → number_at (byte ∷ bytes) ≡ Some (x, rest) → Found (byte ∷ bytes) x rest
number_says byte bytes rest x first h =
    let n = unsigned_len (byte ∷ bytes) in
    let token = take n (byte ∷ bytes) in
    let made = map_some (beside (drop n (byte ∷ bytes))) (number_tree (reading token)) (x, rest) h in
    let tree : made.0 ≡ x = ap (λ (p : Tree × List ℕ). p.0) made.2 in
    let back : drop n (byte ∷ bytes) ≡ rest = ap (λ (p : Tree × List ℕ). p.1) made.2 in
    record {
      token = token;
      is_operand = subst (IsOperand token) tree (number_is token made.0 (reading token) (take_no_sign n byte bytes first) refl made.1);
      joined = sym (take-append-drop n (byte ∷ bytes)) ∙ ap (λ b. token ++ b) back;
    }

-- texts in quotes
prepend_some : (byte : ℕ) (o : Option (List ℕ × List ℕ)) (text rest : List ℕ) → prepend byte o ≡ Some (text, rest) → (inner : List ℕ) × (o ≡ Some (inner, rest)) × (byte ∷ inner ≡ text)
prepend_some byte None text rest h = cc
prepend_some byte (Some parts) text rest h =
    let same = some_pair_parts (byte ∷ parts.0) text parts.1 rest h in
    (parts.0, ap (λ r. Some (parts.0, r)) same.1, same.0)

-- the bytes read, by whether a quote was passed before them
abbrev Unquoted : Bool → List ℕ → List ℕ → List ℕ → Type 0
Unquoted false bytes text rest = bytes ≡ flat_map doubled text ++ (34 ∷ rest)
Unquoted true bytes text rest = 34 ∷ bytes ≡ flat_map doubled text ++ (34 ∷ rest)

one_more : (byte : ℕ) (inner text rest : List ℕ) → byte ∷ inner ≡ text → doubled byte ++ (flat_map doubled inner ++ (34 ∷ rest)) ≡ flat_map doubled text ++ (34 ∷ rest)
one_more byte inner text rest e = sym (append_assoc (doubled byte) (flat_map doubled inner) (34 ∷ rest)) ∙ ap (λ t. flat_map doubled t ++ (34 ∷ rest)) e

plain_byte : (byte : ℕ) → (byte == 34) ≡ false → doubled byte ≡ byte ∷ []
plain_byte byte e = cond-false (byte == 34) _ _ e

unquoted_says : (passed : Bool) (bytes text rest : List ℕ) → unquoted passed bytes ≡ Some (text, rest) → Unquoted passed bytes text rest
unquoted_says false [] text rest h = cc
unquoted_says true [] text rest h =
    let same = some_pair_parts [] text [] rest h in
    ap (λ r. 34 ∷ r) same.1 ∙ ap (λ t. flat_map doubled t ++ (34 ∷ rest)) same.0
unquoted_says false (byte ∷ bytes) text rest h =
    either (Unquoted false (byte ∷ bytes) text rest) (byte == 34) (unquoted true bytes) (prepend byte (unquoted false bytes)) (text, rest)
    (λ quote e. ap (λ b. b ∷ bytes) (eqb-true byte 34 quote) ∙ unquoted_says true bytes text rest e)
    (λ other e.
    let parts = prepend_some byte (unquoted false bytes) text rest e in
    ap (λ b. byte ∷ b) (unquoted_says false bytes parts.0 rest parts.1)
    ∙ ap (λ front. front ++ (flat_map doubled parts.0 ++ (34 ∷ rest))) (sym (plain_byte byte other))
    ∙ one_more byte parts.0 text rest parts.2) h
unquoted_says true (byte ∷ bytes) text rest h =
    either (Unquoted true (byte ∷ bytes) text rest) (byte == 34) (prepend 34 (unquoted false bytes)) (Some ([], byte ∷ bytes)) (text, rest)
    (λ quote e.
    let parts = prepend_some 34 (unquoted false bytes) text rest e in
    ap (λ b. 34 ∷ b ∷ bytes) (eqb-true byte 34 quote)
    ∙ ap (λ b. 34 ∷ 34 ∷ b) (unquoted_says false bytes parts.0 rest parts.1)
    ∙ one_more 34 parts.0 text rest parts.2)
    (λ other e.
    let same = some_pair_parts [] text (byte ∷ bytes) rest e in
    ap (λ r. 34 ∷ r) same.1 ∙ ap (λ t. flat_map doubled t ++ (34 ∷ rest)) same.0) h

string_says : (bytes rest : List ℕ) (x : Tree) → string_at bytes ≡ Some (x, rest) → Found (34 ∷ bytes) x rest
string_says bytes rest x h =
    let read = bind_some (unquoted false bytes) words_of (x, rest) h in
    let text = read.0.0 in
    let words = some_or (is_utf8 text) (Some (t.Words text, read.0.1)) (x, rest) read.2 in
    let same = some_pair_parts (t.Words text) x read.0.1 rest words.1 in
    let parts : bytes ≡ flat_map doubled text ++ (34 ∷ rest) = unquoted_says false bytes text read.0.1 read.1 ∙ ap (λ r. flat_map doubled text ++ (34 ∷ r)) same.1 in
    record {
      token = quoted text;
      is_operand = subst (IsOperand (quoted text)) same.0 (string text words.0);
      joined = ap (λ b. 34 ∷ b) parts ∙ sym (quoted_parts text rest);
    }

-- references
or_second : (a b : Bool) → a ≡ false → (a || b) ≡ true → b ≡ true
or_second true b e h = cc
or_second false b e h = h

closing_more : (closes : Bool) (n x : ℕ) (xs : List ℕ) → is_closing x ≡ closes → (closes ≡ false → xs ≡ take n xs ++ 93 ∷ drop (n + 1) xs) → (x ∷ xs) ≡ take (cond (not closes) (1 + n) 0) (x ∷ xs) ++ 93 ∷ drop (cond (not closes) (1 + n) 0 + 1) (x ∷ xs)
closing_more true n x xs e h = ap (λ b. b ∷ xs) (eqb-true x 93 e)
closing_more false n x xs e h =
    let one : 1 + n ≡ suc n = omega arith in
    let two : 1 + n + 1 ≡ suc (n + 1) = omega arith in
    rw (two, one) (ap (λ ys. x ∷ ys) (h refl))

closing_parts : (bytes : List ℕ) → list_any is_closing bytes ≡ true → bytes ≡ before_first is_closing bytes ++ (93 ∷ after_first is_closing bytes)
closing_parts [] has = cc
closing_parts (x ∷ xs) has =
    closing_more (is_closing x) _ x xs refl (λ e. closing_parts xs (or_second (is_closing x) _ e has))

reference_says : (bytes rest : List ℕ) (x : Tree) → reference_at bytes ≡ Some (x, rest) → Found (91 ∷ bytes) x rest
reference_says bytes rest x h =
    let inside = before_first is_closing bytes in
    let some = some_or (list_any is_closing bytes) (option_map (reference_tree (after_first is_closing bytes)) (spelled_reference inside)) (x, rest) h in
    let r = map_some (reference_tree (after_first is_closing bytes)) (spelled_reference inside) (x, rest) some.1 in
    let tree : t.Ref r.0 ≡ x = ap (λ (p : Tree × List ℕ). p.0) r.2 in
    let back : after_first is_closing bytes ≡ rest = ap (λ (p : Tree × List ℕ). p.1) r.2 in
    let token = codes "[" ++ inside ++ codes "]" in
    record {
      token = token;
      is_operand = subst (IsOperand token) tree (reference inside r.0 r.1);
      joined = ap (λ b. 91 ∷ b) (closing_parts bytes some.0 ∙ ap (λ b. inside ++ (93 ∷ b)) back) ∙ sym (bracketed_parts inside rest);
    }

-- error constants
error_found : (bytes : List ℕ) (faults : List Fault) (fault : Fault) → find (λ f. starts_with nat_eq bytes (fault_text f)) faults ≡ Some fault → starts_with nat_eq bytes (fault_text fault) ≡ true
error_found bytes [] fault h = cc
error_found bytes (first ∷ faults) fault h =
    either (starts_with nat_eq bytes (fault_text fault) ≡ true) (starts_with nat_eq bytes (fault_text first)) (Some first) (find (λ f. starts_with nat_eq bytes (fault_text f)) faults) fault
    (λ starts e. ap (λ f. starts_with nat_eq bytes (fault_text f)) (sym (same_Some first fault e)) ∙ starts)
    (λ _ e. error_found bytes faults fault e) h

error_among : (bytes : List ℕ) (faults : List Fault) (fault : Fault) → list_all is_error_constant faults ≡ true → find (λ f. starts_with nat_eq bytes (fault_text f)) faults ≡ Some fault → is_error_constant fault ≡ true
error_among bytes [] fault all h = cc
error_among bytes (first ∷ faults) fault all h =
    let parts = and_parts (is_error_constant first) (list_all is_error_constant faults) all in
    either (is_error_constant fault ≡ true) (starts_with nat_eq bytes (fault_text first)) (Some first) (find (λ f. starts_with nat_eq bytes (fault_text f)) faults) fault
    (λ _ e. ap is_error_constant (sym (same_Some first fault e)) ∙ parts.0)
    (λ _ e. error_among bytes faults fault parts.1 e) h

error_says : (bytes rest : List ℕ) (x : Tree) → error_at bytes ≡ Some (x, rest) → Found bytes x rest
error_says bytes rest x h =
    let found = map_some (error_tree bytes) (find (λ f. starts_with nat_eq bytes (fault_text f)) error_constants) (x, rest) h in
    let fault = found.0 in
    let tree : t.Bad fault ≡ x = ap (λ (p : Tree × List ℕ). p.0) found.2 in
    let back : drop (length (fault_text fault)) bytes ≡ rest = ap (λ (p : Tree × List ℕ). p.1) found.2 in
    let starts = error_found bytes error_constants fault found.1 in
    let front : fault_text fault ≡ take (length (fault_text fault)) bytes = (bytes_eq-Decides (fault_text fault) (take (length (fault_text fault)) bytes)).0 starts in
    record {
      token = fault_text fault;
      is_operand = subst (IsOperand (fault_text fault)) tree (error fault (error_among bytes error_constants fault refl found.1));
      joined = sym (take-append-drop (length (fault_text fault)) bytes) ∙ ap (λ f. f ++ drop (length (fault_text fault)) bytes) (sym front) ∙ ap (λ b. fault_text fault ++ b) back;
    }

pub operand_says : (bytes rest : List ℕ) (x : Tree) → operand_at bytes ≡ Some (x, rest) → Found bytes x rest
operand_says [] rest x h = cc
operand_says (byte ∷ bytes) rest x h =
    let P : Type 0 = Found (byte ∷ bytes) x rest in
    either P (byte == 34) (string_at bytes) _ (x, rest)
    (λ e k. subst (λ b. Found (b ∷ bytes) x rest) (sym (eqb-true byte 34 e)) (string_says bytes rest x k))
    (λ _ k. either P (byte == 91) (reference_at bytes) _ (x, rest)
    (λ e j. subst (λ b. Found (b ∷ bytes) x rest) (sym (eqb-true byte 91 e)) (reference_says bytes rest x j))
    (λ _ j. either P (byte == 35) (error_at (byte ∷ bytes)) _ (x, rest)
    (λ _ i. error_says (byte ∷ bytes) rest x i)
    (λ _ i. let number = some_or (is_ascii_digit byte || (byte == 46)) (number_at (byte ∷ bytes)) (x, rest) i in
    number_says byte bytes rest x number.0 number.1) j) k) h

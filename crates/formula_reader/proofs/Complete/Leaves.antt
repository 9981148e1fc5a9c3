-- Operands by themselves are read whole where something may stand behind an operand: numbers, error constants, texts in
-- quotes and references.
use Rattle.calc_model.specs.declared.tree.Tree.TheVariants as t
use Rattle.std.proofs.Common.{◌≡◌, ◌+◌, ◌-◌, ℕ, Bool, true, false, not, ◌||◌, List, [], ◌∷◌, ◌++◌, length, Some, refl, sym, ap, ◌∙◌, arith, suc, take, drop, Option, None, codes, append_assoc}
use Rattle.std.specs.Prelude.{◌==◌, option_map}
use Rattle.std.specs.List.{prefix_len, flat_map, after_first, before_first, list_any, position_or_len}
use Rattle.std.proofs.lemmas.Bool.{and_parts, cond-false, cond-true, ne_eqb, or_from, or_parts, not_from_false, or_right}
use Rattle.std.proofs.lemmas.Bool.Decides.{nat_tests}
use Rattle.std.proofs.lemmas.List.{drop_at, take_at, length-append, drop-drop}
use Rattle.byte_cuts.specs.Fronts.{begins}
use Rattle.byte_cuts.proofs.Fronts.{begins_less, behind-all}
use Rattle.calc_model.specs.Tokens.{are_blanks, is_blank, doubled, quoted}
use Rattle.formula_reader.specs.Unread.{past, skip, beside, ◌>>=◌}
use Rattle.std.specs.Char.{is_ascii_digit}
use Rattle.calc_num.specs.Fronts.{behind_exponent, unsigned_len}
use Rattle.calc_num.specs.Spelling.{Unsigned, behind_digits, behind_fraction, behind_sign, exponent, fraction_digits, front_digits, is_negative, reading, reading_of, signed_whole, unsigned, whole_number}
use Rattle.calc_model.specs.Grammar.{is_signed}
use Rattle.calc_model.specs.declared.tree.Tree.{Tree}
use Rattle.formula_reader.specs.Leaves.{number_at, number_tree, error_at, prepend, string_at, unquoted, words_of, is_closing, reference_at, reference_tree}
use Rattle.calc_model.specs.Contents.{is_error_constant}
use Rattle.calc_model.specs.ValueTexts.{fault_text}
use Rattle.calc_model.specs.declared.fault.Fault.{Fault}
use Rattle.calc_model.specs.declared.fault.Fault.TheVariants.{NA, DivZero, BadValue, BadRef, BadName, BadNum, Null, Over, Syntax, Circular}
use Rattle.std.specs.Str.{is_utf8}
use Rattle.formula_reader.proofs.Unquoting.{is_quote, unquoted_pass, unquoted_push}
use Rattle.std.proofs.lemmas.List.Folds.{list_any-append}
use Rattle.calc_addr.specs.Bracketed.{spelled_reference}
use Rattle.calc_addr.specs.References.{Reference}
use Rattle.formula_reader.proofs.Steps.{at, empty_from, mapped_some, none_or, some_or}
use Rattle.formula_reader.proofs.Complete.References.{HasNoClosing, reference_none}

-- no byte passes both tests
pub begins_other : (p q : ℕ → Bool) (text : List ℕ) → ((byte : ℕ) → q byte ≡ true → p byte ≡ false) → begins q text ≡ true → begins p text ≡ false
begins_other p q [] apart h = refl
begins_other p q (byte ∷ rest) apart h = apart byte h

-- a token is taken, with the blanks behind it
pub past-blanks : (blanks rest : List ℕ) (n k : ℕ) → k ≡ 1 + n → are_blanks blanks ≡ true → begins is_blank rest ≡ false → past k (blanks ++ rest) ≡ Some (at rest n)
past-blanks blanks rest n k e all none =
    let more : (k == 0) ≡ false = ne_eqb k 0 (omega arith) in
    let less : k - 1 ≡ n = omega arith in
    cond-false (k == 0) _ _ more ∙ ap (λ m. Some (at (skip (blanks ++ rest)) m)) less ∙ ap (λ bytes. Some (at bytes n)) (behind-all is_blank blanks rest all none)

-- what may stand behind an operand, but for blanks
abbrev pub is_follow : ℕ → Bool
is_follow byte =
    (byte == 41) || (byte == 59) || (byte == 43) || (byte == 45) || (byte == 42) || (byte == 47) || (byte == 94) || (byte == 38) || (byte == 61) || (byte == 60) || (byte == 62) || (byte == 37)

abbrev pub is_no_follow : ℕ → Bool
is_no_follow byte = not (is_follow byte)

abbrev pub is_no_stop : ℕ → Bool
is_no_stop byte = not (is_blank byte || is_follow byte)

-- the text is empty, or begins with what may stand behind an operand
abbrev pub Follows : List ℕ → Type 0
Follows text = begins is_no_follow text ≡ false

-- the same, or it begins with a blank
abbrev pub Stops : List ℕ → Type 0
Stops text = begins is_no_stop text ≡ false

follow_blank : (byte : ℕ) → is_no_follow byte ≡ false → is_blank byte ≡ false
follow_blank byte h = grind (arith, nat_tests)

pub Follows-no_blank : (text : List ℕ) → Follows text → begins is_blank text ≡ false
Follows-no_blank text h = begins_less is_blank is_no_follow text follow_blank h

pub Stops-append : (blanks rest : List ℕ) → are_blanks blanks ≡ true → Follows rest → Stops (blanks ++ rest)
Stops-append [] [] all h = refl
Stops-append [] (byte ∷ rest) all h = grind (arith, nat_tests)
Stops-append (byte ∷ blanks) rest all h =
    let parts = and_parts (is_blank byte) (are_blanks blanks) all in
    ap (λ b. not (b || is_follow byte)) parts.0

-- the token's blanks are passed over, and what follows is left
pub past-token : (blanks rest : List ℕ) (n k : ℕ) → k ≡ 1 + n → are_blanks blanks ≡ true → Follows rest → past k (blanks ++ rest) ≡ Some (at rest n)
past-token blanks rest n k e all follows = past-blanks blanks rest n k e all (Follows-no_blank rest follows)

-- a byte that a number may go on with, but for a sign
abbrev is_in_number : ℕ → Bool
is_in_number byte = is_ascii_digit byte || (byte == 46) || (byte == 101) || (byte == 69)

stop_in_number : (byte : ℕ) → is_no_stop byte ≡ false → is_in_number byte ≡ false
stop_in_number byte h = grind (arith, nat_tests)

-- no digit, point or exponent begins the text
abbrev Ends : List ℕ → Type 0
Ends text = begins is_in_number text ≡ false

record Parts (byte : ℕ) : Type 0 where
  digit : is_ascii_digit byte ≡ false
  point : (byte == 46) ≡ false
  small : (byte == 101) ≡ false
  big : (byte == 69) ≡ false

parts_of : (byte : ℕ) → is_in_number byte ≡ false → Parts byte
parts_of byte h =
    let a = or_parts (is_ascii_digit byte || (byte == 46) || (byte == 101)) (byte == 69) h in
    let b = or_parts (is_ascii_digit byte || (byte == 46)) (byte == 101) a.0 in
    let c = or_parts (is_ascii_digit byte) (byte == 46) b.0 in
    record { digit = c.0; point = c.1; small = b.1; big = a.1 }

digits_more : (byte : ℕ) (text rest : List ℕ) (b : Bool) → is_ascii_digit byte ≡ b → behind_digits (text ++ rest) ≡ behind_digits text ++ rest → behind_digits (byte ∷ (text ++ rest)) ≡ behind_digits (byte ∷ text) ++ rest
digits_more byte text rest true e so_far =
    let one : 1 + prefix_len is_ascii_digit (text ++ rest) ≡ suc (prefix_len is_ascii_digit (text ++ rest)) = omega arith in
    let same : 1 + prefix_len is_ascii_digit text ≡ suc (prefix_len is_ascii_digit text) = omega arith in
    ap (λ n. drop n (byte ∷ (text ++ rest))) (cond-true (is_ascii_digit byte) _ _ e ∙ one)
    ∙ so_far
    ∙ sym (ap (λ n. drop n (byte ∷ text) ++ rest) (cond-true (is_ascii_digit byte) _ _ e ∙ same))
digits_more byte text rest false e so_far =
    ap (λ n. drop n (byte ∷ (text ++ rest))) (cond-false (is_ascii_digit byte) _ _ e)
    ∙ sym (ap (λ n. drop n (byte ∷ text) ++ rest) (cond-false (is_ascii_digit byte) _ _ e))

digits_end : (text rest : List ℕ) → Ends rest → behind_digits (text ++ rest) ≡ behind_digits text ++ rest
digits_end [] [] h = refl
digits_end [] (byte ∷ rest) h = ap (λ n. drop n (byte ∷ rest)) (cond-false (is_ascii_digit byte) _ _ (parts_of byte h).digit)
digits_end (byte ∷ text) rest h = digits_more byte text rest (is_ascii_digit byte) refl (digits_end text rest h)

fraction_end : (text rest : List ℕ) → Ends rest → behind_fraction (text ++ rest) ≡ behind_fraction text ++ rest
fraction_end [] [] h = refl
fraction_end [] (byte ∷ rest) h = cond-false (byte == 46) _ _ (parts_of byte h).point
fraction_end (byte ∷ text) rest h = go (byte == 46) refl
  where
    go : (b : Bool) → (byte == 46) ≡ b → behind_fraction (byte ∷ (text ++ rest)) ≡ behind_fraction (byte ∷ text) ++ rest
    go true e = cond-true (byte == 46) _ _ e ∙ digits_end text rest h ∙ ap (λ t. t ++ rest) (sym (cond-true (byte == 46) _ _ e))
    go false e = cond-false (byte == 46) _ _ e ∙ ap (λ t. t ++ rest) (sym (cond-false (byte == 46) _ _ e))

-- what a text that isn't empty has behind its sign
sign_end : (byte : ℕ) (text rest : List ℕ) → behind_sign (byte ∷ (text ++ rest)) ≡ behind_sign (byte ∷ text) ++ rest
sign_end byte text rest = go ((byte == 45) || (byte == 43)) refl
  where
    go : (b : Bool) → ((byte == 45) || (byte == 43)) ≡ b → behind_sign (byte ∷ (text ++ rest)) ≡ behind_sign (byte ∷ text) ++ rest
    go true e = cond-true ((byte == 45) || (byte == 43)) _ _ e ∙ ap (λ t. t ++ rest) (sym (cond-true ((byte == 45) || (byte == 43)) _ _ e))
    go false e = cond-false ((byte == 45) || (byte == 43)) _ _ e ∙ ap (λ t. t ++ rest) (sym (cond-false ((byte == 45) || (byte == 43)) _ _ e))

-- an exponent is read whole
whole_end : (text : List ℕ) (n : ℕ) → whole_number text ≡ Some n → behind_digits text ≡ []
whole_end text n e =
    let first = none_or (length text == 0) _ n e in
    let second = some_or (length (behind_digits text) == 0) _ n first.1 in
    empty_from (behind_digits text) second.0

exponent_in : (byte : ℕ) (text rest : List ℕ) (power : _) → Ends rest → ((byte == 101) || (byte == 69)) ≡ true → signed_whole text ≡ Some power → behind_exponent (byte ∷ (text ++ rest)) ≡ rest
exponent_in byte [] rest power h e whole = cc
exponent_in byte (next ∷ text) rest power h e whole =
    let number = mapped_some _ (whole_number (behind_sign (next ∷ text))) power whole in
    cond-true ((byte == 101) || (byte == 69)) _ _ e
    ∙ ap behind_digits (sign_end next text rest)
    ∙ digits_end (behind_sign (next ∷ text)) rest h
    ∙ ap (λ t. t ++ rest) (whole_end (behind_sign (next ∷ text)) number.0 number.1)

exponent_end : (text rest : List ℕ) (power : _) → Ends rest → exponent text ≡ Some power → behind_exponent (text ++ rest) ≡ rest
exponent_end [] [] power h e = refl
exponent_end [] (byte ∷ rest) power h e =
    let parts = parts_of byte h in
    cond-false ((byte == 101) || (byte == 69)) _ _ (or_from (byte == 101) (byte == 69) parts.small parts.big)
exponent_end (byte ∷ text) rest power h e =
    let parts = some_or ((byte == 101) || (byte == 69)) (signed_whole text) power e in
    exponent_in byte text rest power h parts.0 parts.1

unsigned_end : (text rest : List ℕ) (n : Unsigned) → Ends rest → unsigned text ≡ Some n → behind_exponent (behind_fraction (behind_digits (text ++ rest))) ≡ rest
unsigned_end text rest n h e =
    let some = none_or (length (front_digits text ++ fraction_digits (behind_digits text)) == 0) _ n e in
    let power = mapped_some _ (exponent (behind_fraction (behind_digits text))) n some.1 in
    ap (λ t. behind_exponent (behind_fraction t)) (digits_end text rest h)
    ∙ ap behind_exponent (fraction_end (behind_digits text) rest h)
    ∙ exponent_end (behind_fraction (behind_digits text)) rest power.0 h power.1

pub no_sign_behind : (text : List ℕ) → is_signed text ≡ false → behind_sign text ≡ text
no_sign_behind [] h = refl
no_sign_behind (byte ∷ text) h =
    let parts = or_parts (byte == 43) (byte == 45) h in
    cond-false ((byte == 45) || (byte == 43)) _ _ (or_from (byte == 45) (byte == 43) parts.1 parts.0)

pub read_unsigned : (negative : Bool) (o : Option Unsigned) (x : Tree) → number_tree (reading_of negative o) ≡ Some x → (n : Unsigned) × (o ≡ Some n)
read_unsigned negative None x e = cc
read_unsigned negative (Some n) x e = (n, refl)

-- a number's token, and what follows it
pub number_in_front : (text rest : List ℕ) (x : Tree) → Stops rest → is_signed text ≡ false → number_tree (reading text) ≡ Some x → number_at (text ++ rest) ≡ Some (x, rest)
number_in_front text rest x stops sign e =
    let ends = begins_less is_in_number is_no_stop rest (stop_in_number) stops in
    let n = read_unsigned (is_negative text) (unsigned (behind_sign text)) x e in
    let same : unsigned text ≡ Some n.0 = ap unsigned (sym (no_sign_behind text sign)) ∙ n.1 in
    let len : unsigned_len (text ++ rest) ≡ length text =
    ap (λ t. length (text ++ rest) - length t) (unsigned_end text rest n.0 ends same) ∙ omega (arith, length-append text rest) in
    let front : take (unsigned_len (text ++ rest)) (text ++ rest) ≡ text = take_at text rest (unsigned_len (text ++ rest)) (sym len) in
    let back : drop (unsigned_len (text ++ rest)) (text ++ rest) ≡ rest = drop_at text rest (unsigned_len (text ++ rest)) (sym len) in
    ap (λ t. option_map (beside (drop (unsigned_len (text ++ rest)) (text ++ rest))) (number_tree (reading t))) front
    ∙ ap (λ t. option_map (beside t) (number_tree (reading text))) back
    ∙ ap (option_map (beside rest)) e

-- what holds of each error constant
pub each_error : (P : Fault → Type 0) → P NA → P DivZero → P BadValue → P BadRef → P BadName → P BadNum → P Null → P Over → (fault : Fault) → is_error_constant fault ≡ true → P fault
each_error P na div_zero value ref name num null over NA h = na
each_error P na div_zero value ref name num null over DivZero h = div_zero
each_error P na div_zero value ref name num null over BadValue h = value
each_error P na div_zero value ref name num null over BadRef h = ref
each_error P na div_zero value ref name num null over BadName h = name
each_error P na div_zero value ref name num null over BadNum h = num
each_error P na div_zero value ref name num null over Null h = null
each_error P na div_zero value ref name num null over Over h = over
each_error P na div_zero value ref name num null over Syntax h = cc
each_error P na div_zero value ref name num null over Circular h = cc

pub error_in_front : (fault : Fault) (rest : List ℕ) → is_error_constant fault ≡ true → error_at (fault_text fault ++ rest) ≡ Some (t.Bad fault, rest)
error_in_front fault rest h = each_error (λ f. error_at (fault_text f ++ rest) ≡ Some (t.Bad f, rest)) refl refl refl refl refl refl refl refl fault h

stop_no_quote : (byte : ℕ) → is_no_stop byte ≡ false → is_quote byte ≡ false
stop_no_quote byte h = grind (arith, nat_tests)

quote_stops : (rest : List ℕ) → begins is_quote rest ≡ false → unquoted true rest ≡ Some ([], rest)
quote_stops [] h = refl
quote_stops (byte ∷ rest) h = cond-false (byte == 34) _ _ h

one_byte : (byte : ℕ) (rest : List ℕ) (b : Bool) → (byte == 34) ≡ b → unquoted false (doubled byte ++ rest) ≡ prepend byte (unquoted false rest)
one_byte byte rest true e =
    ap (λ front. unquoted false (front ++ rest)) (cond-true (byte == 34) _ _ e)
    ∙ unquoted_pass byte (byte ∷ rest) e
    ∙ unquoted_push true byte rest e
one_byte byte rest false e =
    ap (λ front. unquoted false (front ++ rest)) (cond-false (byte == 34) _ _ e)
    ∙ unquoted_push false byte rest e

unquoted_text : (text rest : List ℕ) → begins is_quote rest ≡ false → unquoted false (flat_map doubled text ++ (34 ∷ rest)) ≡ Some (text, rest)
unquoted_text [] rest h = quote_stops rest h
unquoted_text (byte ∷ text) rest h =
    ap (unquoted false) (append_assoc (doubled byte) (flat_map doubled text) (34 ∷ rest))
    ∙ one_byte byte (flat_map doubled text ++ (34 ∷ rest)) (byte == 34) refl
    ∙ ap (prepend byte) (unquoted_text text rest h)

pub quoted_parts : (text rest : List ℕ) → quoted text ++ rest ≡ 34 ∷ (flat_map doubled text ++ (34 ∷ rest))
quoted_parts text rest = ap (λ t. 34 ∷ t) (append_assoc (flat_map doubled text) (codes "\"") rest)

pub string_in_front : (text rest : List ℕ) → Stops rest → is_utf8 text ≡ true → string_at (flat_map doubled text ++ (34 ∷ rest)) ≡ Some (t.Words text, rest)
string_in_front text rest stops utf8 =
    ap (λ parts. parts >>= words_of) (unquoted_text text rest (begins_less is_quote is_no_stop rest stop_no_quote stops))
    ∙ cond-true (is_utf8 text) _ _ utf8

closing_at : (text rest : List ℕ) → HasNoClosing text → position_or_len is_closing (text ++ 93 ∷ rest) ≡ length text
closing_at [] rest none = refl
closing_at (x ∷ xs) rest none =
    let parts = or_parts (is_closing x) (list_any is_closing xs) none in
    cond-true (not (is_closing x)) _ _ (not_from_false (is_closing x) parts.0)
    ∙ omega (arith, closing_at xs rest parts.1)

before_closing : (text rest : List ℕ) → HasNoClosing text → before_first is_closing (text ++ 93 ∷ rest) ≡ text
before_closing text rest none =
    ap (λ n. take n (text ++ 93 ∷ rest)) (closing_at text rest none) ∙ take_at text (93 ∷ rest) (length text) refl

after_closing : (text rest : List ℕ) → HasNoClosing text → after_first is_closing (text ++ 93 ∷ rest) ≡ rest
after_closing text rest none =
    ap (λ n. drop (n + 1) (text ++ 93 ∷ rest)) (closing_at text rest none)
    ∙ sym (drop-drop 1 (length text) (text ++ 93 ∷ rest))
    ∙ ap (drop 1) (drop_at text (93 ∷ rest) (length text) refl)

pub bracketed_parts : (text rest : List ℕ) → (codes "[" ++ text ++ codes "]") ++ rest ≡ 91 ∷ (text ++ (93 ∷ rest))
bracketed_parts text rest = ap (λ t. 91 ∷ t) (append_assoc text (codes "]") rest)

pub reference_in_front : (text rest : List ℕ) (r : Reference) → spelled_reference text ≡ Some r → reference_at (text ++ (93 ∷ rest)) ≡ Some (t.Ref r, rest)
reference_in_front text rest r e =
    let none = reference_none text r e in
    let bytes = text ++ 93 ∷ rest in
    let has : list_any is_closing bytes ≡ true = list_any-append is_closing text (93 ∷ rest) ∙ or_right (list_any is_closing text) true refl in
    cond-true (list_any is_closing bytes) _ _ has
    ∙ ap (λ inside. option_map (reference_tree (after_first is_closing bytes)) (spelled_reference inside)) (before_closing text rest none)
    ∙ ap (λ back. option_map (reference_tree back) (spelled_reference text)) (after_closing text rest none)
    ∙ ap (option_map (reference_tree rest)) e

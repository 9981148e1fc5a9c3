-- What the texts of operands, primaries and levels begin with.
use Rattle.std.proofs.Common.{◌≡◌, ℕ, Bool, true, false, ◌&&◌, ◌||◌, nat_le, List, [], ◌∷◌, ◌++◌, length, drop, Some, None, refl, sym, ap, ◌∙◌, arith}
use Rattle.std.specs.Prelude.{◌==◌}
use Rattle.std.specs.Char.{is_ascii_digit}
use Rattle.std.specs.List.{list_all}
use Rattle.std.specs.Str.{is_utf8}
use Rattle.std.proofs.lemmas.Bool.{and_from, and_parts, cond-false, both_ways, or_left, or_right}
use Rattle.std.proofs.lemmas.Bool.Decides.{nat_tests}
use Rattle.std.proofs.lemmas.List.Sums.{take_while-cons}
use Rattle.calc_num.specs.Spelling.{Unsigned, behind_digits, fraction_digits, front_digits, is_negative, behind_sign, reading, unsigned}
use Rattle.calc_model.specs.Contents.{is_error_constant}
use Rattle.calc_model.specs.Grammar.{AreSomeArgs, IsOperand, IsPrimary, IsLevel, call, error, is_signed, large_number, looser, minus, more, name, number, one, op_text, operand, operated, parenthesis, percent, plus, primary, reference, string}
use Rattle.calc_model.specs.Tokens.{are_blanks, begins_identifier, has_identifier_bytes, is_blank, is_identifier, is_in_identifier}
use Rattle.calc_model.specs.ValueTexts.{fault_text}
use Rattle.calc_model.specs.declared.fault.Fault.{Fault}
use Rattle.calc_model.specs.declared.tree.Tree.{Tree}
use Rattle.formula_reader.specs.Leaves.{number_tree}
use Rattle.formula_reader.specs.Signs.{sign_at}
use Rattle.byte_cuts.specs.Fronts.{begins}
use Rattle.byte_cuts.proofs.Fronts.{begins-append}
use Rattle.formula_reader.proofs.Complete.Leaves.{begins_other, each_error, no_sign_behind, read_unsigned}
use Rattle.formula_reader.proofs.Steps.{none_or}
use Rattle.formula_reader.proofs.Identifiers.{name_is_identifier}

abbrev pub is_number_start : ℕ → Bool
is_number_start byte = is_ascii_digit byte || (byte == 46)

-- what a primary begins with, and what a text of a level does
abbrev pub is_start : ℕ → Bool
is_start byte = (byte == 40) || (byte == 34) || (byte == 91) || (byte == 35) || is_number_start byte || begins_identifier byte

abbrev pub is_sign : ℕ → Bool
is_sign byte = (byte == 43) || (byte == 45)

abbrev pub is_level_start : ℕ → Bool
is_level_start byte = is_start byte || is_sign byte

digitless : (byte : ℕ) (text : List ℕ) → is_ascii_digit byte ≡ false → (byte == 46) ≡ false → (length (front_digits (byte ∷ text) ++ fraction_digits (behind_digits (byte ∷ text))) == 0) ≡ true
digitless byte text digit point =
    let front : front_digits (byte ∷ text) ≡ [] = take_while-cons is_ascii_digit byte text ∙ cond-false (is_ascii_digit byte) _ _ digit in
    let back : behind_digits (byte ∷ text) ≡ byte ∷ text = ap (λ n. drop n (byte ∷ text)) (cond-false {A = ℕ} (is_ascii_digit byte) _ _ digit) in
    let none : fraction_digits (byte ∷ text) ≡ [] = cond-false (byte == 46) _ _ point in
    ap (λ t. length (t ++ fraction_digits (behind_digits (byte ∷ text))) == 0) front
    ∙ ap (λ t. length (fraction_digits t) == 0) back
    ∙ ap (λ t. length t == 0) none

first_of_number : (byte : ℕ) (text : List ℕ) (n : Unsigned) (digit point : Bool) → is_ascii_digit byte ≡ digit → (byte == 46) ≡ point → unsigned (byte ∷ text) ≡ Some n → is_number_start byte ≡ true
first_of_number byte text n true point d p e = or_left (is_ascii_digit byte) (byte == 46) d
first_of_number byte text n false true d p e = or_right (is_ascii_digit byte) (byte == 46) p
first_of_number byte text n false false d p e =
    let parts = none_or (length (front_digits (byte ∷ text) ++ fraction_digits (behind_digits (byte ∷ text))) == 0) _ n e in
    absurd (both_ways _ parts.0 (digitless byte text d p))

unsigned_begins : (text : List ℕ) (n : Unsigned) → unsigned text ≡ Some n → begins is_number_start text ≡ true
unsigned_begins [] n e = cc
unsigned_begins (byte ∷ text) n e = first_of_number byte text n (is_ascii_digit byte) (byte == 46) refl refl e

pub number_begins : (text : List ℕ) (x : Tree) → is_signed text ≡ false → number_tree (reading text) ≡ Some x → begins is_number_start text ≡ true
number_begins text x sign e =
    let n = read_unsigned (is_negative text) (unsigned (behind_sign text)) x e in
    unsigned_begins text n.0 (ap unsigned (sym (no_sign_behind text sign)) ∙ n.1)

pub identifier_begins : (text : List ℕ) → is_identifier text ≡ true → begins begins_identifier text ≡ true
identifier_begins [] h = cc
identifier_begins (byte ∷ text) h =
    let parts = and_parts (has_identifier_bytes (byte ∷ text) && nat_le (length (byte ∷ text)) 255) (is_utf8 (byte ∷ text)) h in
    let bytes = and_parts (has_identifier_bytes (byte ∷ text)) (nat_le (length (byte ∷ text)) 255) parts.0 in
    (and_parts (begins_identifier byte) (list_all is_in_identifier text) bytes.0).0

begin_in : (byte : ℕ) → begins_identifier byte ≡ true → is_in_identifier byte ≡ true
begin_in byte h = or_left (begins_identifier byte || is_ascii_digit byte) (byte == 46) (or_left (begins_identifier byte) (is_ascii_digit byte) h)

pub identifier_bytes : (text : List ℕ) → is_identifier text ≡ true → list_all is_in_identifier text ≡ true
identifier_bytes [] h = refl
identifier_bytes (byte ∷ text) h =
    let parts = and_parts (has_identifier_bytes (byte ∷ text) && nat_le (length (byte ∷ text)) 255) (is_utf8 (byte ∷ text)) h in
    let bytes = and_parts (has_identifier_bytes (byte ∷ text)) (nat_le (length (byte ∷ text)) 255) parts.0 in
    let both = and_parts (begins_identifier byte) (list_all is_in_identifier text) bytes.0 in
    and_from (is_in_identifier byte) (list_all is_in_identifier text) (begin_in byte both.0) both.1

pub begins_more : (p q : ℕ → Bool) (text : List ℕ) → ((byte : ℕ) → p byte ≡ true → q byte ≡ true) → begins p text ≡ true → begins q text ≡ true
begins_more p q [] wider h = cc
begins_more p q (byte ∷ rest) wider h = wider byte h

number_start : (byte : ℕ) → is_number_start byte ≡ true → is_start byte ≡ true
number_start byte h = or_left _ (begins_identifier byte) (or_right _ (is_number_start byte) h)

identifier_start : (byte : ℕ) → begins_identifier byte ≡ true → is_start byte ≡ true
identifier_start byte h = or_right _ (begins_identifier byte) h

error_begins : (fault : Fault) → is_error_constant fault ≡ true → begins is_start (fault_text fault) ≡ true
error_begins fault h = each_error (λ f. begins is_start (fault_text f) ≡ true) refl refl refl refl refl refl refl refl fault h

operand_begins : {text : List ℕ} {x : Tree} → IsOperand text x → begins is_start text ≡ true
operand_begins (number text n s r) = begins_more is_number_start is_start text number_start (number_begins text _ s (ap number_tree r))
operand_begins (large_number text s r) = begins_more is_number_start is_start text number_start (number_begins text _ s (ap number_tree r))
operand_begins (string text u) = refl
operand_begins (reference text r e) = refl
operand_begins (error fault e) = error_begins fault e
operand_begins (name text e) = begins_more begins_identifier is_start text identifier_start (identifier_begins text (name_is_identifier text e))

pub primary_begins : {text : List ℕ} {x : Tree} → IsPrimary text x → begins is_start text ≡ true
primary_begins (operand {text = front} blanks o all) = begins-append is_start front blanks (operand_begins o)
primary_begins (parenthesis first last a r b) = refl
primary_begins (call word blanks first last i a b args c) = begins-append is_start word _ (begins_more begins_identifier is_start word identifier_start (identifier_begins word i))

start_level : (byte : ℕ) → is_start byte ≡ true → is_level_start byte ≡ true
start_level byte h = or_left (is_start byte) (is_sign byte) h

pub level_begins : {k : ℕ} {text : List ℕ} {x : Tree} → IsLevel k text x → begins is_level_start text ≡ true
level_begins (primary {text = front} p) = begins_more is_start is_level_start front start_level (primary_begins p)
level_begins (plus blanks all r) = refl
level_begins (minus blanks all r) = refl
level_begins (percent {text = front} blanks r all) = begins-append is_level_start front (37 ∷ blanks) (level_begins r)
level_begins (looser r) = level_begins r
level_begins (operated {left = front} {right = back} op blanks l here all r) = begins-append is_level_start front (op_text op ++ (blanks ++ back)) (level_begins l)

pub some_begins : {text : List ℕ} {args : List Tree} → AreSomeArgs text args → begins is_level_start text ≡ true
some_begins (one r) = level_begins r
some_begins (more {front = front} {text = back} blanks args all r) = begins-append is_level_start front (59 ∷ (blanks ++ back)) (some_begins args)

-- what no text of a level begins with
pub level_no_blank : (byte : ℕ) → is_level_start byte ≡ true → is_blank byte ≡ false
level_no_blank byte h = grind (arith, nat_tests)

pub level_no_blanks : (text rest : List ℕ) → begins is_level_start text ≡ true → begins is_blank (text ++ rest) ≡ false
level_no_blanks text rest h = begins_other is_blank is_level_start (text ++ rest) level_no_blank (begins-append is_level_start text rest h)

start_no_sign : (byte : ℕ) → is_start byte ≡ true → ((byte == 43) ≡ false) × ((byte == 45) ≡ false)
start_no_sign byte h = (grind (arith, nat_tests), grind (arith, nat_tests))

-- no sign stands in front of a primary
pub primary_no_sign : (text rest : List ℕ) → begins is_start text ≡ true → sign_at (text ++ rest) ≡ None
primary_no_sign [] rest h = cc
primary_no_sign (byte ∷ text) rest h =
    let other = start_no_sign byte h in
    cond-false (byte == 43) _ _ other.0 ∙ cond-false (byte == 45) _ _ other.1

-- blanks and a text, of which neither begins so
pub behind_blanks : (p : ℕ → Bool) (blanks text : List ℕ) → ((byte : ℕ) → is_blank byte ≡ true → p byte ≡ false) → are_blanks blanks ≡ true → begins p text ≡ false → begins p (blanks ++ text) ≡ false
behind_blanks p [] text apart all h = h
behind_blanks p (byte ∷ blanks) text apart all h = apart byte (and_parts (is_blank byte) (are_blanks blanks) all).0

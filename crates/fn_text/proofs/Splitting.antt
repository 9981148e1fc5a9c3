-- Characters that are taken off a text one after the other.
use Rattle.std.proofs.Common.{◌≡◌, ℕ, ◌+◌, ◌-◌, ◌≤◌, List, [], ◌∷◌, ◌++◌, drop, length, take, refl, sym, ap, subst, ◌∙◌, arith, append_assoc}
use Rattle.std.specs.Str.{IsCharBoundary, IsUtf8, chars, encode_utf8_all}
use Rattle.std.specs.Char.{encode_utf8}
use Rattle.std.proofs.Math.Seq.{drop-append_seam, take-append_seam}
use Rattle.std.proofs.lemmas.List.{append-nil, drop_all, length-append, nil_from_length, take_all}
use Rattle.std.proofs.lemmas.Str.{IsCharBoundary-at_seam, IsUtf8-past_char, chars-nil, chars_past_char, encodes-chars}
use Rattle.fn_text.specs.Splits.{IsLeft}

pub record IsPast (text : List ℕ) (count : ℕ) (rest : List ℕ) : Type 0 where
  pub front : List ℕ
  pub count_is : length front ≡ count
  pub bytes : text ≡ encode_utf8_all front ++ rest
  pub characters : chars text ≡ front ++ chars rest
  pub valid : IsUtf8 rest

pub at_start : (text : List ℕ) → IsUtf8 text → IsPast text 0 text
at_start text valid = record { front = []; count_is = refl; bytes = refl; characters = refl; valid = valid }

one_more : (front : List ℕ) (c : ℕ) (rest : List ℕ) → encode_utf8_all front ++ (encode_utf8 c ++ rest) ≡ encode_utf8_all (front ++ c ∷ []) ++ rest
one_more [] c rest = ap (λ bytes. bytes ++ rest) (sym (append-nil (encode_utf8 c)))
one_more (b ∷ front) c rest =
    append_assoc (encode_utf8 b) (encode_utf8_all front) (encode_utf8 c ++ rest)
    ∙ ap (λ bytes. encode_utf8 b ++ bytes) (one_more front c rest)
    ∙ sym (append_assoc (encode_utf8 b) (encode_utf8_all (front ++ c ∷ [])) rest)

pub past_one : (text : List ℕ) (count : ℕ) (rest after : List ℕ) (c : ℕ) → IsPast text count rest → rest ≡ encode_utf8 c ++ after → IsPast text (count + 1) after
past_one text count rest after c past e = record {
  front = past.front ++ c ∷ [];
  count_is = length-append past.front (c ∷ []) ∙ omega (arith, past.count_is);
  bytes = past.bytes ∙ ap (λ bytes. encode_utf8_all past.front ++ bytes) e ∙ one_more past.front c after;
  characters =
      past.characters ∙ ap (λ cs. past.front ++ cs) (chars_past_char rest after c past.valid e)
      ∙ sym (append_assoc past.front (c ∷ []) (chars after));
  valid = IsUtf8-past_char rest after c past.valid e;
}

pub at_end : (text : List ℕ) (count : ℕ) (rest : List ℕ) → IsPast text count rest → IsLeft text count rest
at_end text count rest past = record {
  front = past.bytes ∙ ap (λ cs. encode_utf8_all cs ++ rest) (sym (ap (take count) past.characters ∙ ap (λ n. take n (past.front ++ chars rest)) (sym past.count_is) ∙ take-append_seam past.front (chars rest)));
  left = sym (encodes-chars rest past.valid) ∙ ap encode_utf8_all (sym (ap (drop count) past.characters ∙ ap (λ n. drop n (past.front ++ chars rest)) (sym past.count_is) ∙ drop-append_seam past.front (chars rest)));
  characters = sym (ap (drop count) past.characters ∙ ap (λ n. drop n (past.front ++ chars rest)) (sym past.count_is) ∙ drop-append_seam past.front (chars rest));
}

-- nothing is left before all were taken
pub used_up : (text : List ℕ) (count most : ℕ) (rest : List ℕ) → count ≤ most → length rest ≡ 0 → IsPast text count rest → IsLeft text most rest
used_up text count most rest h none past =
    let nil : rest ≡ [] = nil_from_length rest none in
    let all : chars text ≡ past.front = past.characters ∙ ap (λ r. past.front ++ chars r) nil ∙ ap (λ cs. past.front ++ cs) chars-nil ∙ append-nil past.front in
    record {
      front = past.bytes ∙ ap (λ cs. encode_utf8_all cs ++ rest) (sym (ap (take most) all ∙ take_all most past.front (omega (arith, past.count_is, h))));
      left = nil ∙ ap encode_utf8_all (sym (ap (drop most) all ∙ drop_all most past.front (omega (arith, past.count_is, h))));
      characters = ap chars nil ∙ chars-nil ∙ sym (ap (drop most) all ∙ drop_all most past.front (omega (arith, past.count_is, h)));
    }

-- the bytes before what is left
pub front-bytes : (text : List ℕ) (count : ℕ) (rest : List ℕ) → IsLeft text count rest → take (length text - length rest) text ≡ encode_utf8_all (take count (chars text))
front-bytes text count rest left =
    let front = encode_utf8_all (take count (chars text)) in
    let size : length text - length rest ≡ length front = omega (arith, ap length left.front, length-append front rest) in
    ap (λ n. take n text) size ∙ ap (take (length front)) left.front ∙ take-append_seam front rest

pub boundary : (text : List ℕ) (count : ℕ) (rest : List ℕ) → IsUtf8 rest → IsLeft text count rest → IsCharBoundary text (length text - length rest)
boundary text count rest valid left =
    let front = encode_utf8_all (take count (chars text)) in
    let size : length front ≡ length text - length rest = omega (arith, ap length left.front, length-append front rest) in
    subst (IsCharBoundary text) size (IsCharBoundary-at_seam text front rest left.front valid)

-- Parameters as texts, up to the first error, and joined.
use Rattle.std.proofs.Common.{◌≡◌, ℕ, ◌+◌, ◌<◌, List, [], ◌∷◌, ◌++◌, drop, get_or, length, map, take, Ok, Err, ap, cond, sym, ◌∙◌, arith}
use Rattle.std.specs.List.{flat_map}
use Rattle.std.proofs.lemmas.Bool.{lt-ltb}
use Rattle.std.proofs.lemmas.List.{map-append, take-append-drop, take_more, drop_more}
use Rattle.std.proofs.lemmas.List.Folds.{flat_map-map, length-flat_map-take}
use Rattle.calc_addr.specs.Places.{Place}
use Rattle.calc_model.specs.Arguments.{meaning_of, meanings_of}
use Rattle.calc_model.specs.Meanings.{Meaning}
use Rattle.calc_model.specs.Operators.{from_ok, kept_words}
use Rattle.calc_model.specs.Parameters.{all_ok, text}
use Rattle.calc_model.specs.Scalars.{CellValues}
use Rattle.calc_model.specs.Texts.{concatenate}
use Rattle.calc_model.specs.declared.arg.Arg.{Arg}
use Rattle.calc_model.specs.declared.fault.Fault.{Fault}
use Rattle.calc_model.specs.declared.fault.Fault.TheVariants.{Over}
use Rattle.calc_model.specs.declared.limits.TheConstants.{MOST_FIELD_BYTES}
use Rattle.calc_model.specs.declared.value.Value.TheVariants.{Bad, Words}
use Rattle.fn_args.specs.Lent.{words_in}
use Rattle.fn_args.specs.declared.words.Words.{Words as Lent}
use Rattle.fn_args.proofs.FirstErrors.{after, all_ok-before}

module _ (home : Place) (v : CellValues) (args : List Arg) (i : ℕ) (x : Arg) (inside : i < length args) (is : x ≡ get_or args i x) (ts : List (List ℕ)) (so_far : all_ok (map text (meanings_of home v (take i args))) ≡ Ok ts) where
  -- the front, and others behind it
  behind : (more : List Arg) → all_ok (map text (meanings_of home v (take i args ++ more))) ≡ after ts (all_ok (map text (meanings_of home v more)))
  behind more =
      ap (λ ms. all_ok (map text ms)) (map-append (meaning_of home v) (take i args) more)
      ∙ ap all_ok (map-append text (meanings_of home v (take i args)) (meanings_of home v more))
      ∙ all_ok-before (map text (meanings_of home v (take i args))) (map text (meanings_of home v more)) ts so_far

  pub one-text : (words : List ℕ) → Ok words ≡ text (meaning_of home v x) → all_ok (map text (meanings_of home v (take (i + 1) args))) ≡ Ok (ts ++ words ∷ [])
  one-text words e =
      ap (λ xs. all_ok (map text (meanings_of home v xs))) (take_more args i x inside ∙ ap (λ y. take i args ++ y ∷ []) (sym is))
      ∙ behind (x ∷ []) ∙ ap (λ r. after ts (all_ok (r ∷ []))) (sym e)

  pub no-text : (fault : Fault) → Err fault ≡ text (meaning_of home v x) → Err fault ≡ all_ok (map text (meanings_of home v args))
  no-text fault e =
      let rest = drop (i + 1) args in
      sym (ap (λ xs. all_ok (map text (meanings_of home v xs))) (sym (take-append-drop i args) ∙ ap (λ xs. take i args ++ xs) (drop_more args i x inside ∙ ap (λ y. y ∷ rest) (sym is)))
      ∙ behind (x ∷ rest) ∙ ap (λ r. after ts (all_ok (r ∷ map text (meanings_of home v rest)))) (sym e))

pub joined-is : (ms : List Meaning) (parts : List Lent) → Ok (map words_in parts) ≡ all_ok (map text ms) → kept_words (flat_map words_in parts) ≡ concatenate ms
joined-is ms parts e =
    ap kept_words (sym (flat_map-map (λ (bytes : List ℕ). bytes) words_in parts)) ∙ ap (λ r. from_ok r (λ texts. kept_words (flat_map (λ bytes. bytes) texts))) e

-- a part that doesn't fit behind those before it
pub too-long : (parts : List Lent) (i : ℕ) (part : Lent) (whole : List ℕ) (room : ℕ) → i < length parts → part ≡ get_or parts i part → whole ≡ flat_map words_in (take i parts) → length whole + room ≡ MOST_FIELD_BYTES → room < length (words_in part) → Bad Over ≡ kept_words (flat_map words_in parts)
too-long parts i part whole room inside is so_far size more =
    let last = ap (λ (p : Lent). length (words_in p)) is in
    sym (ap (λ b. cond b (Bad Over) (Words (flat_map words_in parts))) (lt-ltb MOST_FIELD_BYTES (length (flat_map words_in parts))
    (omega (arith, length-flat_map-take words_in parts i part inside, last, ap length so_far, size, more))))

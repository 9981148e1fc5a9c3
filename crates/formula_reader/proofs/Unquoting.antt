-- A text in quotes, read run by run.
use Rattle.std.proofs.Common.{◌≡◌, ◌<◌, ◌+◌, ℕ, suc, Bool, true, false, not, ◌||◌, cond, List, [], ◌∷◌, ◌++◌, length, take, drop, Option, Some, None, refl, sym, ap, ◌∙◌, subst, append_assoc, arith}
use Rattle.std.specs.Prelude.{◌==◌, option_map}
use Rattle.std.specs.List.{after_first, before_first, list_any}
use Rattle.std.proofs.lemmas.Bool.{cond-false, cond-true, eqb-true, or_parts}
use Rattle.std.proofs.lemmas.Option.{same_Some}
use Rattle.formula_reader.specs.Leaves.{behind_quote, prepend, unquoted}

abbrev pub is_quote : ℕ → Bool
is_quote byte = byte == 34

-- these bytes in front of the text
abbrev pub front_of : List ℕ → List ℕ × List ℕ → List ℕ × List ℕ
front_of text parts = (text ++ parts.0, parts.1)

abbrev pub prepended : List ℕ → Option (List ℕ × List ℕ) → Option (List ℕ × List ℕ)
prepended text o = option_map (front_of text) o

pub prepended_none : (o : Option (List ℕ × List ℕ)) → prepended [] o ≡ o
prepended_none None = refl
prepended_none (Some parts) = refl

pub prepended_push : (text : List ℕ) (byte : ℕ) (o : Option (List ℕ × List ℕ)) → prepended (text ++ byte ∷ []) o ≡ prepended text (prepend byte o)
prepended_push text byte None = refl
prepended_push text byte (Some parts) = ap (λ front. Some (front, parts.1)) (append_assoc text (byte ∷ []) parts.0)

prepended_run : (text run : List ℕ) (o : Option (List ℕ × List ℕ)) → prepended text (prepended run o) ≡ prepended (text ++ run) o
prepended_run text run None = refl
prepended_run text run (Some parts) = ap (λ front. Some (front, parts.1)) (sym (append_assoc text run parts.0))

prepend_prepended : (byte : ℕ) (text : List ℕ) (o : Option (List ℕ × List ℕ)) → prepend byte (prepended text o) ≡ prepended (byte ∷ text) o
prepend_prepended byte text None = refl
prepend_prepended byte text (Some parts) = refl

-- another byte, or a quote behind a quote
pub unquoted_push : (passed : Bool) (byte : ℕ) (rest : List ℕ) → (byte == 34) ≡ passed → unquoted passed (byte ∷ rest) ≡ prepend byte (unquoted false rest)
unquoted_push true byte rest e = cond-true (byte == 34) _ _ e ∙ ap (λ b. prepend b (unquoted false rest)) (sym (eqb-true byte 34 e))
unquoted_push false byte rest e = cond-false (byte == 34) _ _ e

-- a first quote
pub unquoted_pass : (byte : ℕ) (rest : List ℕ) → (byte == 34) ≡ true → unquoted false (byte ∷ rest) ≡ unquoted true rest
unquoted_pass byte rest e = cond-true (byte == 34) _ _ e

-- up to the first quote
first_more : (quote : Bool) (n byte : ℕ) (rest : List ℕ) → (byte == 34) ≡ quote → (quote ≡ false → unquoted false rest ≡ prepended (take n rest) (unquoted true (drop (n + 1) rest)))
    → unquoted false (byte ∷ rest) ≡ prepended (take (cond (not quote) (1 + n) 0) (byte ∷ rest)) (unquoted true (drop (cond (not quote) (1 + n) 0 + 1) (byte ∷ rest)))
first_more true n byte rest e h = unquoted_pass byte rest e ∙ sym (prepended_none (unquoted true rest))
first_more false n byte rest e h =
    let one : 1 + n ≡ suc n = omega arith in
    let two : 1 + n + 1 ≡ suc (n + 1) = omega arith in
    rw (two, one) (unquoted_push false byte rest e ∙ ap (prepend byte) (h refl) ∙ prepend_prepended byte (take n rest) (unquoted true (drop (n + 1) rest)))

or_second : (a b : Bool) → a ≡ false → (a || b) ≡ true → b ≡ true
or_second true b e h = cc
or_second false b e h = h

unquoted_first : (bytes : List ℕ) → list_any is_quote bytes ≡ true → unquoted false bytes ≡ prepended (before_first is_quote bytes) (unquoted true (after_first is_quote bytes))
unquoted_first [] has = cc
unquoted_first (byte ∷ rest) has = first_more (byte == 34) _ byte rest refl (λ e. unquoted_first rest (or_second (byte == 34) _ e has))

pub run_read : (text run bytes rest : List ℕ) → list_any is_quote bytes ≡ true → run ≡ before_first is_quote bytes → rest ≡ after_first is_quote bytes → prepended text (unquoted false bytes) ≡ prepended (text ++ run) (unquoted true rest)
run_read text run bytes rest has first last =
    ap (prepended text) (unquoted_first bytes has ∙ ap (λ r. prepended r (unquoted true (after_first is_quote bytes))) (sym first) ∙ ap (λ r. prepended run (unquoted true r)) (sym last))
    ∙ prepended_run text run (unquoted true rest)

pub quoteless : (bytes : List ℕ) → list_any is_quote bytes ≡ false → unquoted false bytes ≡ None
quoteless [] none = refl
quoteless (byte ∷ rest) none =
    let parts = or_parts (byte == 34) (list_any is_quote rest) none in
    unquoted_push false byte rest parts.0 ∙ ap (prepend byte) (quoteless rest parts.1)

-- behind a quote: a second one, or the end
pub second_quote : (rest more : List ℕ) → behind_quote rest ≡ Some more → (unquoted true rest ≡ prepend 34 (unquoted false more)) × (length more < length rest)
second_quote [] more h = cc
second_quote (byte ∷ rest) more h = by_quote (byte == 34) refl h
  where
    by_quote : (b : Bool) → (byte == 34) ≡ b → cond b (Some rest) None ≡ Some more → (unquoted true (byte ∷ rest) ≡ prepend 34 (unquoted false more)) × (length more < length (byte ∷ rest))
    by_quote true e h =
        let same = same_Some rest more h in
        let less : length rest < length (byte ∷ rest) = omega arith in
        (cond-true (byte == 34) _ _ e ∙ ap (λ r. prepend 34 (unquoted false r)) same, subst (λ r. length r < length (byte ∷ rest)) same less)
    by_quote false e h = cc

pub quote_ends : (rest : List ℕ) → behind_quote rest ≡ None → unquoted true rest ≡ Some ([], rest)
quote_ends [] h = refl
quote_ends (byte ∷ rest) h = by_quote (byte == 34) refl h
  where
    by_quote : (b : Bool) → (byte == 34) ≡ b → cond b (Some rest) None ≡ None → unquoted true (byte ∷ rest) ≡ Some ([], byte ∷ rest)
    by_quote true e h = cc
    by_quote false e h = cond-false (byte == 34) _ _ e

-- A text with its quotes doubled, up to a quote and behind it.
use Rattle.std.proofs.Common.{◌≡◌, ℕ, suc, ◌+◌, ◌-◌, ◌<◌, ◌≤◌, ◌==◌, Bool, false, not, cond, List, [], ◌∷◌, ◌++◌, length, take, drop, get_or, Some, None, Result, Ok, Err, inl, inr, refl, sym, ap, ◌∙◌, arith, add-one, append_assoc}
use Rattle.std.specs.Prelude.{nat_lt, is_ok, OnOk}
use Rattle.std.specs.List.{flat_map, position, position_or_len}
use Rattle.std.proofs.Math.Seq.{drop-cons}
use Rattle.std.proofs.lemmas.Bool.{cases_Bool, cond-true, cond-false, eqb-true, ltb-false, not-true}
use Rattle.std.proofs.lemmas.Grind.{flat_map-append}
use Rattle.std.proofs.lemmas.List.{length-drop, length-take-le, take_all, take-append-drop, get_or-take}
use Rattle.std.proofs.lemmas.List.Quantifiers.{position-Some}
use Rattle.std.proofs.lemmas.List.Sums.{prefix_len_passes}
use Rattle.calc_model.specs.Tokens.{doubled}
use Rattle.formula_printer.specs.Growth.{BeginsWith}
use Rattle.formula_printer.proofs.Growing.{begins_extended}

abbrev is_quote : ℕ → Bool
is_quote byte = byte == 34

-- a text without quotes is as it is
plain : (text : List ℕ) → ((k : ℕ) → k < length text → is_quote (get_or text k 0) ≡ false) → flat_map doubled text ≡ text
plain [] none = refl
plain (byte ∷ rest) none =
    ap (λ front. front ++ flat_map doubled rest) (cond-false (is_quote byte) (byte ∷ byte ∷ []) (byte ∷ []) (none 0 (omega arith)))
    ∙ ap (λ xs. byte ∷ xs) (plain rest (λ k within. none (suc k) (omega arith)))

past : (text : List ℕ) → position is_quote text ≡ None → length text ≤ position_or_len is_quote text
past text none =
    let at = position_or_len is_quote text in
    elim (cases_Bool (nat_lt at (length text))) [
      | inl within ↦ let some = sym (cond-true (nat_lt at (length text)) (Some at) None within) ∙ none in cc
      | inr beyond ↦ ltb-false at (length text) beyond
    ]

pub doubled-none : (text : List ℕ) → position is_quote text ≡ None → flat_map doubled text ≡ text
doubled-none text none =
    let long = past text none in
    plain text (λ k within. not-true _ (prefix_len_passes (λ x. not (is_quote x)) text k 0 (omega arith)))

pub doubled-some : (text : List ℕ) (at : ℕ) → position is_quote text ≡ Some at → flat_map doubled text ≡ take at text ++ (34 ∷ 34 ∷ flat_map doubled (drop (at + 1) text))
doubled-some text at some =
    let is = position-Some is_quote text at 0 some in
    let inside = is.0 in
    let front : flat_map doubled (take at text) ≡ take at text =
    plain (take at text) (λ k within. let before : k < at = omega (arith, length-take-le at text (omega arith)) in ap is_quote (get_or-take at text k 0 before) ∙ is.2 k before) in
    let quote : get_or text at 0 ≡ 34 = eqb-true _ _ is.1 in
    let behind : drop at text ≡ 34 ∷ drop (at + 1) text = drop-cons text at 0 inside ∙ ap (λ byte. byte ∷ drop (suc at) text) quote ∙ ap (λ n. 34 ∷ drop n text) (sym (add-one at)) in
    ap (flat_map doubled) (sym (take-append-drop at text))
    ∙ flat_map-append doubled (take at text) (drop at text)
    ∙ ap (λ xs. xs ++ flat_map doubled (drop at text)) front
    ∙ ap (λ xs. take at text ++ flat_map doubled xs) behind

-- what is printed with what is left comes to the whole, and the text has only gained at its end
pub record IsPrinting (old out rest text : List ℕ) : Type 0 where
  pub same : out ++ flat_map doubled rest ≡ old ++ flat_map doubled text
  pub kept : BeginsWith old out

-- a run up to a quote, and the quote doubled
pub past_quote : (old out run more rest text : List ℕ) (at n : ℕ) → IsPrinting old out rest text → position is_quote rest ≡ Some at → run ≡ out ++ take at rest → more ≡ run ++ (34 ∷ 34 ∷ []) → n ≡ length rest - (at + 1) → IsPrinting old more (take n (drop (at + 1) rest)) text
past_quote old out run more rest text at n is some gained doubled_quote left = record {
  same =
      let behind = drop (at + 1) rest in
      let whole : take n behind ≡ behind = take_all n behind (omega (arith, length-drop (at + 1) rest)) in
      let printed : more ≡ out ++ (take at rest ++ (34 ∷ 34 ∷ [])) =
      doubled_quote ∙ ap (λ xs. xs ++ (34 ∷ 34 ∷ [])) gained ∙ append_assoc out (take at rest) (34 ∷ 34 ∷ []) in
      ap (λ xs. more ++ flat_map doubled xs) whole
      ∙ ap (λ xs. xs ++ flat_map doubled behind) printed
      ∙ append_assoc out (take at rest ++ (34 ∷ 34 ∷ [])) (flat_map doubled behind)
      ∙ ap (λ xs. out ++ xs) (append_assoc (take at rest) (34 ∷ 34 ∷ []) (flat_map doubled behind))
      ∙ ap (λ xs. out ++ xs) (sym (doubled-some rest at some))
      ∙ is.same;
  kept = begins_extended old run more (34 ∷ 34 ∷ []) (begins_extended old out run (take at rest) is.kept gained) doubled_quote;
}

-- what is left has no quote
pub to_end : {T E : Type 0} (r : Result T E) (old out all rest text : List ℕ) → IsPrinting old out rest text → position is_quote rest ≡ None → all ≡ cond (is_ok r) (out ++ rest) out → OnOk r (all ≡ old ++ flat_map doubled text)
to_end (Ok done) old out all rest text is none gained = gained ∙ ap (λ xs. out ++ xs) (sym (doubled-none rest none)) ∙ is.same
to_end (Err refused) old out all rest text is none gained = tt

-- Words that ask for help are not of the command.
use Rattle.std.proofs.Common.{◌≡◌, ◌∙◌, ◌⊎◌, inl, inr, ◌≤◌, ◌<◌, ℕ, List, [], ◌∷◌, length, codes, None, refl, ap, sym, arith}
use Rattle.std.specs.Prelude.{get_or}
use Rattle.clap.proofs.OnLiterals.{clap_on_literals}
use Rattle.calc_words.specs.Words.{IsEither, calc_app, words_of}

-- what the only word of a list is
only : (words : List (List ℕ)) (word : List ℕ) → 1 ≤ length words → length words < 2 → word ≡ get_or words 0 word → words ≡ word ∷ []
only [] word some few is = absurd (omega arith)
only (first ∷ []) word some few is = ap (λ w. w ∷ []) (sym is)
only (first ∷ next ∷ words) word some few is = absurd (omega (arith, few))

-- the only word is one of two
pub said_alone : (words : List (List ℕ)) (word said long short : List ℕ) → 1 ≤ length words → length words < 2 → word ≡ get_or words 0 word → said ≡ word → (said ≡ long) ⊎ (said ≡ short) → IsEither long short words
said_alone words word said long short some few is same (inl is_long) = inl (only words word some few is ∙ ap (λ w. w ∷ []) (sym same ∙ is_long))
said_alone words word said long short some few is same (inr is_short) = inr (only words word some few is ∙ ap (λ w. w ∷ []) (sym same ∙ is_short))

-- the only word is one of two, and neither is of the command
pub none_said : (words : List (List ℕ)) (word said long short : List ℕ) → 1 ≤ length words → length words < 2
    → word ≡ get_or words 0 word → said ≡ word → (said ≡ long) ⊎ (said ≡ short)
    → words_of (long ∷ []) ≡ None → words_of (short ∷ []) ≡ None → words_of words ≡ None
none_said words word said long short some few is same (inl is_long) none none_short =
    ap words_of (only words word some few is ∙ ap (λ w. w ∷ []) (sym same ∙ is_long)) ∙ none
none_said words word said long short some few is same (inr is_short) none_long none =
    ap words_of (only words word some few is ∙ ap (λ w. w ∷ []) (sym same ∙ is_short)) ∙ none

pub no_help : words_of (codes "--help" ∷ []) ≡ None
unfolding words_of calc_app clap_on_literals
no_help = refl

pub no_short_help : words_of (codes "-h" ∷ []) ≡ None
unfolding words_of calc_app clap_on_literals
no_short_help = refl

pub no_version : words_of (codes "--version" ∷ []) ≡ None
unfolding words_of calc_app clap_on_literals
no_version = refl

pub no_short_version : words_of (codes "-V" ∷ []) ≡ None
unfolding words_of calc_app clap_on_literals
no_short_version = refl

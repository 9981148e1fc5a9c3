-- The first word of a text, and the words of what follows it.
use Rattle.std.proofs.Common.{◌≡◌, ℕ, suc, ◌+◌, ◌≤◌, Bool, true, false, not, cond, List, [], ◌∷◌, length, take, drop, refl, sym, ap, subst, ◌∙◌, inl, inr, ◌≢◌, arith}
use Rattle.std.specs.Prelude.{filter}
use Rattle.std.specs.List.{slice_split, onto_first, position_or_len, prefix_len}
use Rattle.std.proofs.lemmas.List.Splits.{slice_split-cons_yes, slice_split-cons_no, slice_split_first}
use Rattle.std.proofs.lemmas.List.{drop_all, take_all}
use Rattle.std.proofs.lemmas.Bool.{cases_lt}
use Rattle.calc_script.specs.Words.{is_space, without_spaces, up_to_space, behind_space, has_bytes, words_of}
use Rattle.byte_cuts.proofs.FirstLines.{longer_front}

pub longer_drop : (n x : ℕ) (xs : List ℕ) → drop (1 + n) (x ∷ xs) ≡ drop n xs
longer_drop n x xs = let e : 1 + n ≡ suc n = omega arith in ap (λ k. drop k (x ∷ xs)) e

-- a space at the front starts no word
past_space : (x : ℕ) (xs : List ℕ) → is_space x ≡ true → words_of (x ∷ xs) ≡ words_of xs
unfolding words_of
past_space x xs h = ap (filter has_bytes) (slice_split-cons_yes is_space x xs h)

pub words_without_spaces : (text : List ℕ) → words_of text ≡ words_of (without_spaces text)
words_without_spaces [] = refl
words_without_spaces (x ∷ xs) =
    let by_first : (b : Bool) → is_space x ≡ b → words_of (x ∷ xs) ≡ words_of (drop (cond b (1 + prefix_len is_space xs) 0) (x ∷ xs)) =
    λ b. elim b as (λ v. is_space x ≡ v → words_of (x ∷ xs) ≡ words_of (drop (cond v (1 + prefix_len is_space xs) 0) (x ∷ xs))) [
      | true ↦ λ h. past_space x xs h ∙ words_without_spaces xs ∙ ap words_of (sym (longer_drop (prefix_len is_space xs) x xs))
      | false ↦ λ h. refl
    ]
    in by_first (is_space x) refl

-- a text without a space is one part
one_part : (xs : List ℕ) → length xs ≤ position_or_len is_space xs → slice_split is_space xs ≡ xs ∷ []
one_part [] h = refl
one_part (x ∷ xs) h =
    let by_first : (b : Bool) → is_space x ≡ b → length (x ∷ xs) ≤ cond (not b) (1 + position_or_len is_space xs) 0 → slice_split is_space (x ∷ xs) ≡ (x ∷ xs) ∷ [] =
    λ b. elim b as (λ v. is_space x ≡ v → length (x ∷ xs) ≤ cond (not v) (1 + position_or_len is_space xs) 0 → slice_split is_space (x ∷ xs) ≡ (x ∷ xs) ∷ []) [
      | true ↦ λ e l. absurd (omega arith)
      | false ↦ λ e l. let l' : length xs ≤ position_or_len is_space xs = omega arith in slice_split-cons_no is_space x xs e ∙ ap (onto_first x) (one_part xs l')
    ]
    in by_first (is_space x) refl h

-- the parts of a text: what stands before its first space, and those of what follows, but for empty ones
first_part : (xs : List ℕ) → words_of xs ≡ filter has_bytes (up_to_space xs ∷ slice_split is_space (behind_space xs))
unfolding words_of
first_part xs = elim (cases_lt (position_or_len is_space xs) (length xs)) [
  | inl some ↦ ap (filter has_bytes) (slice_split_first is_space xs 0 some)
  | inr none ↦
      let whole : up_to_space xs ≡ xs = take_all (position_or_len is_space xs) xs none in
      let ends : length xs ≤ position_or_len is_space xs + 1 = omega arith in
      let nothing : behind_space xs ≡ [] = drop_all (position_or_len is_space xs + 1) xs ends in
      ap (filter has_bytes) (one_part xs none)
      ∙ sym (ap (λ w. filter has_bytes (w ∷ slice_split is_space (behind_space xs))) whole ∙ ap (λ r. filter has_bytes (xs ∷ slice_split is_space r)) nothing)
]

begins : (x : ℕ) (xs : List ℕ) → is_space x ≡ false → has_bytes (up_to_space (x ∷ xs)) ≡ true
begins x xs h =
    let P : Bool → Type 0 = λ b. has_bytes (take (cond (not b) (1 + position_or_len is_space xs) 0) (x ∷ xs)) ≡ true in
    subst P (sym h) (ap has_bytes (longer_front (position_or_len is_space xs) x xs))

-- a text that begins with no space begins with its first word
first_word : (x : ℕ) (xs : List ℕ) → is_space x ≡ false → words_of (x ∷ xs) ≡ up_to_space (x ∷ xs) ∷ words_of (behind_space (x ∷ xs))
unfolding words_of
first_word x xs h =
    let word : List ℕ = up_to_space (x ∷ xs) in
    let words : List (List ℕ) = words_of (behind_space (x ∷ xs)) in
    first_part (x ∷ xs) ∙ ap (λ b. cond b (word ∷ words) words) (begins x xs h)

-- what is left when the spaces are taken from the front begins with none
no_space_left : (text : List ℕ) (x : ℕ) (xs : List ℕ) → without_spaces text ≡ x ∷ xs → is_space x ≡ false
no_space_left [] x xs h = cc
no_space_left (y ∷ ys) x xs h =
    let by_first : (b : Bool) → is_space y ≡ b → drop (cond b (1 + prefix_len is_space ys) 0) (y ∷ ys) ≡ x ∷ xs → is_space x ≡ false =
    λ b. elim b as (λ v. is_space y ≡ v → drop (cond v (1 + prefix_len is_space ys) 0) (y ∷ ys) ≡ x ∷ xs → is_space x ≡ false) [
      | true ↦ λ e d. no_space_left ys x xs (sym (longer_drop (prefix_len is_space ys) y ys) ∙ d)
      | false ↦ λ e d. cc
    ]
    in by_first (is_space y) refl h

pub no_word : (text : List ℕ) → without_spaces text ≡ [] → words_of text ≡ []
unfolding words_of
no_word text h = words_without_spaces text ∙ ap words_of h

pub next_word : (text : List ℕ) → without_spaces text ≢ [] → words_of text ≡ up_to_space (without_spaces text) ∷ words_of (behind_space (without_spaces text))
next_word text h =
    let at : (bs : List ℕ) → without_spaces text ≡ bs → words_of bs ≡ up_to_space bs ∷ words_of (behind_space bs) =
    λ bs. elim bs as (λ bs. without_spaces text ≡ bs → words_of bs ≡ up_to_space bs ∷ words_of (behind_space bs)) [
      | [] ↦ λ e. absurd (h e)
      | x ∷ xs ↦ λ e. first_word x xs (no_space_left text x xs e)
    ]
    in words_without_spaces text ∙ at (without_spaces text) refl

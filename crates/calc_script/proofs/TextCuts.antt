-- Texts that are cut at spaces are texts, and the test of a text.
use Rattle.std.proofs.Common.{◌≡◌, ℕ, ◌+◌, ◌<◌, ◌≤◌, Bool, true, false, not, cond, List, [], ◌∷◌, length, drop, get_or, refl, sym, subst, inl, inr, arith}
use Rattle.std.specs.List.{position_or_len, prefix_len}
use Rattle.std.specs.Str.{IsUtf8, is_utf8}
use Rattle.std.proofs.lemmas.Str.{IsUtf8-nil, IsUtf8-drop, IsUtf8-take, IsCharBoundary-before_ascii, IsUtf8-from_is_utf8, is_utf8-from_IsUtf8, IsCharBoundary-after_ascii}
use Rattle.std.proofs.lemmas.List.{drop_all, take_all}
use Rattle.std.proofs.lemmas.List.Sums.{prefix_len_stops}
use Rattle.std.proofs.lemmas.Bool.{cases_lt, not-false}
use Rattle.calc_script.proofs.Splitting.{longer_drop}
use Rattle.calc_script.specs.Words.{is_space, without_spaces, behind_space, up_to_space}

pub text_passes : (bs : List ℕ) → IsUtf8 bs → is_utf8 bs ≡ true
text_passes bs u = is_utf8-from_IsUtf8 bs u

pub other_bytes_fail : (bs : List ℕ) → ¬ (IsUtf8 bs) → is_utf8 bs ≡ false
other_bytes_fail bs n =
    let by_test : (b : Bool) → is_utf8 bs ≡ b → b ≡ false =
    λ b. elim b as (λ v. is_utf8 bs ≡ v → v ≡ false) [ true ↦ λ e. absurd (n (IsUtf8-from_is_utf8 bs e)) | false ↦ λ e. refl ]
    in by_test (is_utf8 bs) refl

behind_ascii : (bs : List ℕ) (i : ℕ) → IsUtf8 bs → i < length bs → get_or bs i 0 < 128 → IsUtf8 (drop (i + 1) bs)
behind_ascii bs i u l a = IsUtf8-drop bs (i + 1) u (IsCharBoundary-after_ascii bs i u l a)

space_is_ascii : (x : ℕ) → is_space x ≡ true → x < 128
space_is_ascii x h = grind (arith, h)

pub without_spaces_text : (bs : List ℕ) → IsUtf8 bs → IsUtf8 (without_spaces bs)
without_spaces_text [] u = IsUtf8-nil
without_spaces_text (x ∷ xs) u =
    let by_first : (b : Bool) → is_space x ≡ b → IsUtf8 (drop (cond b (1 + prefix_len is_space xs) 0) (x ∷ xs)) =
    λ b. elim b as (λ v. is_space x ≡ v → IsUtf8 (drop (cond v (1 + prefix_len is_space xs) 0) (x ∷ xs))) [
      | true ↦ λ h. subst IsUtf8 (sym (longer_drop (prefix_len is_space xs) x xs)) (without_spaces_text xs (behind_ascii (x ∷ xs) 0 u (omega arith) (space_is_ascii x h)))
      | false ↦ λ h. u
    ]
    in by_first (is_space x) refl

pub behind_space_text : (bs : List ℕ) → IsUtf8 bs → IsUtf8 (behind_space bs)
behind_space_text bs u =
    let at : ℕ = position_or_len is_space bs in
    elim (cases_lt at (length bs)) [
      | inl some ↦
          let space : is_space (get_or bs at 0) ≡ true = not-false (is_space (get_or bs at 0)) (prefix_len_stops (λ x. not (is_space x)) bs 0 some) in
          behind_ascii bs at u some (space_is_ascii (get_or bs at 0) space)
      | inr none ↦
          let ends : length bs ≤ at + 1 = omega arith in
          subst IsUtf8 (sym (drop_all (at + 1) bs ends)) IsUtf8-nil
    ]

-- what stands before the first space
pub up_to_space_text : (bs : List ℕ) → IsUtf8 bs → IsUtf8 (up_to_space bs)
up_to_space_text bs u =
    let at : ℕ = position_or_len is_space bs in
    elim (cases_lt at (length bs)) [
      | inl some ↦
          let space : is_space (get_or bs at 0) ≡ true = not-false (is_space (get_or bs at 0)) (prefix_len_stops (λ x. not (is_space x)) bs 0 some) in
          IsUtf8-take bs at u (IsCharBoundary-before_ascii bs at some (space_is_ascii (get_or bs at 0) space))
      | inr none ↦ subst IsUtf8 (sym (take_all at bs none)) u
    ]

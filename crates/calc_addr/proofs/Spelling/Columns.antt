-- The letters of a column, one letter at a time.
use Rattle.std.proofs.Common.{◌≡◌, ℕ, zero, suc, ◌+◌, ◌-◌, ◌*◌, ◌/◌, ◌%◌, ◌<◌, ◌≤◌, ◌==◌, [], ◌∷◌, ◌++◌, length, refl, sym, ◌∙◌, ap, arith, ⊎_elim, length-append}
use Rattle.std.proofs.lemmas.Bool.{cond-true, cond-false, cond_both, eq-eqb, ne_eqb, cases_eq}
use Rattle.calc_addr.specs.Letters.{last_letters, column_letters}

none : (k n : ℕ) → n ≡ 0 → last_letters k n ≡ []
none zero n e = refl
none (suc k) n e = cond-true (n == 0) _ _ (eq-eqb n 0 e)

some : (k n : ℕ) → (n ≡ 0 → Prim.⊥) → last_letters (suc k) n ≡ last_letters k ((n - 1) / 26) ++ (65 + (n - 1) % 26) ∷ []
some k n h = cond-false (n == 0) _ _ (ne_eqb n 0 h)

-- the last column that so many letters can name
abbrev pub last_column : ℕ → ℕ
last_column zero = 0
last_column (suc k) = last_column k * 26 + 26

-- room for one more letter changes nothing
pub last_letters-suc : (k n : ℕ) → n ≤ last_column k → last_letters k n ≡ last_letters (suc k) n
last_letters-suc zero n h = sym (none 1 n (omega arith))
last_letters-suc (suc k) n h = ⊎_elim
    (λ e. none (suc k) n e ∙ sym (none (suc (suc k)) n e))
    (λ ne. some k n ne ∙ ap (λ x. x ++ (65 + (n - 1) % 26) ∷ []) (last_letters-suc k ((n - 1) / 26) (omega arith)) ∙ sym (some (suc k) n ne))
    (cases_eq n 0)

-- the columns A to Z
pub column_letters_one : (n : ℕ) → 1 ≤ n → n ≤ 26 → column_letters n ≡ (65 + (n - 1) % 26) ∷ []
unfolding column_letters
column_letters_one n low high = some 2 n (omega arith) ∙ ap (λ x. x ++ (65 + (n - 1) % 26) ∷ []) (none 2 ((n - 1) / 26) (omega arith))

-- the columns after Z
pub column_letters_more : (n : ℕ) → 26 < n → n ≤ 1024 → column_letters n ≡ column_letters ((n - 1) / 26) ++ (65 + (n - 1) % 26) ∷ []
unfolding column_letters
column_letters_more n low high =
    some 2 n (omega arith) ∙ ap (λ x. x ++ (65 + (n - 1) % 26) ∷ []) (last_letters-suc 2 ((n - 1) / 26) (omega arith))

at_most : (k n : ℕ) → length (last_letters k n) ≤ k
at_most zero n = omega arith
at_most (suc k) n = cond_both (n == 0) [] (last_letters k ((n - 1) / 26) ++ (65 + (n - 1) % 26) ∷ []) (λ x. length x ≤ suc k) (λ _. omega arith)
    (λ _. omega (arith, length-append (last_letters k ((n - 1) / 26)) ((65 + (n - 1) % 26) ∷ []), at_most k ((n - 1) / 26)))

pub length-column_letters : (n : ℕ) → 1 ≤ n → n ≤ 1024 → length (column_letters n) ≤ 3
unfolding column_letters
length-column_letters n low high = at_most 3 n

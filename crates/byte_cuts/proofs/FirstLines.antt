-- The first line of a text, and the lines of what follows it.
use Rattle.std.proofs.Common.{◌≡◌, ◌≢◌, ℕ, suc, ◌+◌, ◌==◌, true, false, not, cond, List, [], ◌∷◌, take, drop, refl, sym, ap, ◌∙◌, arith}
use Rattle.std.specs.List.{before_first, after_first, prefix_len, onto_first}
use Rattle.byte_cuts.specs.declared.line.TheConstants.{LINE_FEED}
use Rattle.byte_cuts.specs.Lines.{lines_of}

abbrev until_feed : List ℕ → ℕ
until_feed xs = prefix_len (λ byte. not (byte == LINE_FEED)) xs

pub longer_front : (n x : ℕ) (xs : List ℕ) → take (1 + n) (x ∷ xs) ≡ x ∷ take n xs
longer_front n x xs = let e : 1 + n ≡ suc n = omega arith in ap (λ k. take k (x ∷ xs)) e

longer_back : (n x : ℕ) (xs : List ℕ) → drop (1 + n + 1) (x ∷ xs) ≡ drop (n + 1) xs
longer_back n x xs = let e : 1 + n + 1 ≡ suc (n + 1) = omega arith in ap (λ k. drop k (x ∷ xs)) e

-- the byte joins the first line of what follows it
onto_first_line : (x y : ℕ) (xs : List ℕ) → lines_of (y ∷ xs) ≡ take (until_feed (y ∷ xs)) (y ∷ xs) ∷ lines_of (drop (until_feed (y ∷ xs) + 1) (y ∷ xs)) → onto_first x (lines_of (y ∷ xs)) ≡ take (1 + until_feed (y ∷ xs)) (x ∷ y ∷ xs) ∷ lines_of (drop (1 + until_feed (y ∷ xs) + 1) (x ∷ y ∷ xs))
onto_first_line x y xs h =
    let n : ℕ = until_feed (y ∷ xs) in
    ap (onto_first x) h
    ∙ ap (λ front. front ∷ lines_of (drop (n + 1) (y ∷ xs))) (sym (longer_front n x (y ∷ xs)))
    ∙ ap (λ back. take (1 + n) (x ∷ y ∷ xs) ∷ lines_of back) (sym (longer_back n x (y ∷ xs)))

first_line : (x : ℕ) (xs : List ℕ) → lines_of (x ∷ xs) ≡ before_first (λ byte. byte == LINE_FEED) (x ∷ xs) ∷ lines_of (after_first (λ byte. byte == LINE_FEED) (x ∷ xs))
first_line x [] = elim (x == LINE_FEED) as (λ b. cond b ([] ∷ []) ((x ∷ []) ∷ []) ≡ take (cond (not b) 1 0) (x ∷ []) ∷ lines_of (drop (cond (not b) 1 0 + 1) (x ∷ []))) [ true ↦ refl | false ↦ refl ]
first_line x (y ∷ xs) = elim (x == LINE_FEED) as (λ b. cond b ([] ∷ lines_of (y ∷ xs)) (onto_first x (lines_of (y ∷ xs))) ≡ take (cond (not b) (1 + until_feed (y ∷ xs)) 0) (x ∷ y ∷ xs) ∷ lines_of (drop (cond (not b) (1 + until_feed (y ∷ xs)) 0 + 1) (x ∷ y ∷ xs))) [
  | true ↦ refl
  | false ↦ onto_first_line x y xs (first_line y xs)
]

pub cut_line : (text : List ℕ) → text ≢ [] → lines_of text ≡ before_first (λ byte. byte == LINE_FEED) text ∷ lines_of (after_first (λ byte. byte == LINE_FEED) text)
cut_line [] h = absurd (h refl)
cut_line (x ∷ xs) h = first_line x xs

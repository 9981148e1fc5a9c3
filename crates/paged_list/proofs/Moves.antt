-- Items that move within a list.
use Rattle.std.proofs.Common.{◌≡◌, ℕ, suc, ◌+◌, ◌-◌, ◌<◌, ◌≤◌, List, [], ◌∷◌, append_assoc, ◌++◌, take, drop, length, get_or, replicate, inl, inr, sym, ap, ◌∙◌, arith}
use Rattle.std.proofs.lemmas.List.{same_lists, places, length-take, length-drop, length-append, length-replicate, get_or-drop, get_or-take, get_or-replicate, get_or_append_left, get_or-append_right, set-append_right, set_at, replicate_more, drop_more}
use Rattle.std.proofs.Math.ListN.{set}
use Rattle.std.proofs.lemmas.Bool.{cases_lt}

module _ {T : Type 0} where
  pub moved-down : (low high : ℕ) (xs ys : List T) → low ≤ high → high ≤ length xs → length ys ≡ length xs → ((i : ℕ) (d : T) → i < low → get_or ys i d ≡ get_or xs i d)
      → ((i : ℕ) (d : T) → low ≤ i → i + (high - low) < length xs → get_or ys i d ≡ get_or xs (i + (high - low)) d) → take (length xs - (high - low)) ys ≡ take low xs ++ drop high xs
  moved-down low high xs ys order within len front moved =
      same_lists (take (length xs - (high - low)) ys) (take low xs ++ drop high xs)
      (omega (arith, length-take (length xs - (high - low)) ys, length-append (take low xs) (drop high xs), length-take low xs, length-drop high xs))
      (λ k d h. grind (arith, places, front, moved, h))

  pub moved-up : (low end count : ℕ) (xs ys : List T) (x : T) → low ≤ end → end + count ≡ length xs → length ys ≡ length xs → ((i : ℕ) (d : T) → i < low → get_or ys i d ≡ get_or xs i d)
      → ((i : ℕ) (d : T) → low ≤ i → i < low + count → get_or ys i d ≡ x) → ((i : ℕ) (d : T) → low ≤ i → i < end → get_or ys (i + count) d ≡ get_or xs i d) → ys ≡ take low xs ++ (replicate count x ++ drop low (take end xs))
  moved-up low end count xs ys x order within len front gap moved =
      same_lists ys (take low xs ++ (replicate count x ++ drop low (take end xs)))
      (omega (arith, len, length-append (take low xs) (replicate count x ++ drop low (take end xs)), length-append (replicate count x) (drop low (take end xs)), length-take low xs, length-replicate count x, length-drop low (take end xs), length-take end xs))
      (λ k d h. elim (cases_lt k low) [
        | inl b ↦ front k d b ∙ sym (get_or_append_left (take low xs) behind d k (omega (arith, b, length-take low xs)) ∙ get_or-take low xs k d b)
        | inr a ↦ elim (cases_lt k (low + count)) [
          | inl b ↦ gap k d a b ∙ sym (at-place k d a ∙ get_or_append_left (replicate count x) (drop low (take end xs)) d (k - low) (omega (arith, a, b, length-replicate count x)) ∙ get_or-replicate count (k - low) x d (omega (arith, a, b)))
          | inr b ↦
              let place : k - count + count ≡ k = omega (arith, b) in
              let source : low + (k - low - count) ≡ k - count = omega (arith, a, b) in
              ap (λ n. get_or ys n d) (sym place) ∙ moved (k - count) d (omega (arith, b)) (omega (arith, h, len, within, b))
              ∙ sym (at-place k d a ∙ get_or-append_right (replicate count x) (drop low (take end xs)) count (k - low) d (length-replicate count x) (omega (arith, a, b)) ∙ get_or-drop low (take end xs) (k - low - count) d ∙ ap (λ n. get_or (take end xs) n d) source ∙ get_or-take end xs (k - count) d (omega (arith, h, len, within, b)))
        ]
      ])
    where
      behind : List T
      behind = replicate count x ++ drop low (take end xs)

      at-place : (k : ℕ) (d : T) → low ≤ k → get_or (take low xs ++ behind) k d ≡ get_or behind (k - low) d
      at-place k d a = get_or-append_right (take low xs) behind low k d (omega (arith, order, within, length-take low xs)) a

  pub plain-at : (end i count : ℕ) (xs : List T) (x d : T) → drop end xs ≡ replicate count x → end ≤ i → i < end + count → get_or xs i d ≡ x
  plain-at end i count xs x d h from to =
      let place : end + (i - end) ≡ i = omega arith in
      ap (λ n. get_or xs n d) (sym place) ∙ sym (get_or-drop end xs (i - end) d) ∙ ap (λ v. get_or v (i - end) d) h ∙ get_or-replicate count (i - end) x d (omega arith)

  -- the last of the places that are open takes an item
  pub filled-one : (at n : ℕ) (xs more : List T) (x y : T) → at ≤ length xs → n < length more → y ≡ get_or more n y → set (take at xs ++ (replicate (suc n) x ++ (drop (suc n) more ++ drop at xs))) (at + n) y ≡ take at xs ++ (replicate n x ++ (drop n more ++ drop at xs))
  filled-one at n xs more x y h l e =
      let rest : List T = drop (suc n) more ++ drop at xs in
      let place : at + n - at ≡ n = omega arith in
      let next : n + 1 ≡ suc n = omega arith in
      let opened : replicate (suc n) x ++ rest ≡ replicate n x ++ x ∷ rest = ap (λ m. replicate m x ++ rest) (sym next) ∙ ap (λ v. v ++ rest) (sym (replicate_more n x)) ∙ append_assoc (replicate n x) (x ∷ []) rest in
      set-append_right (take at xs) (replicate (suc n) x ++ rest) at (at + n) y (omega (arith, h, length-take at xs)) (omega arith)
      ∙ ap (λ i. take at xs ++ set (replicate (suc n) x ++ rest) i y) place
      ∙ ap (λ v. take at xs ++ set v n y) opened
      ∙ ap (λ v. take at xs ++ v) (set_at (replicate n x) x rest y n (length-replicate n x))
      ∙ ap (λ v. take at xs ++ (replicate n x ++ (v ++ drop at xs))) (ap (λ z. z ∷ drop (suc n) more) e ∙ ap (λ m. get_or more n y ∷ drop m more) (sym next) ∙ sym (drop_more more n y l))

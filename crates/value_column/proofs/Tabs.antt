-- A column as the list of what a function gives for its rows.
use Rattle.std.proofs.Common.{◌≡◌, ◌≢◌, ℕ, ◌+◌, ◌-◌, ◌<◌, ◌≤◌, List, ◌++◌, map, take, drop, length, replicate, get_or, cond, nat_lt, nat_le, ◌&&◌, slice_get, Some, sym, ap, ◌∙◌, inl, inr, ◌⊎◌, arith}
use Rattle.std.proofs.Math.ListN.{set}
use Rattle.std.specs.List.{range_with_len}
use Rattle.std.proofs.lemmas.Bool.{cond-true, cond-false, lt-ltb, le-leb, lt-leb, le-ltb, cases_lt, cases_eq, and_from, and_left, and_right}
use Rattle.std.proofs.lemmas.List.{get_or_append_left, get_or-append_right, get_or-take, get_or-drop, get_or-replicate, length-take-le, length-append, length-replicate, length-drop, length-set, get_or-set_same, get_or-set_other}
use Rattle.std.proofs.lemmas.List.FromFn.{fill_by_all, length-map-range_with_len, get_or-map-range_with_len}
use Rattle.std.proofs.lemmas.Option.{slice_get-get_or}
use Rattle.run_tables.specs.Rows.{spliced, rows_set, rows_inserted, rows_erased}
use Rattle.run_tables.proofs.RowEdits.{length-rows_set, length-rows_inserted, length-rows_erased}
use Rattle.value_column.specs.Lanes.{opened, closed}
use Rattle.value_column.proofs.Cleared.{plain-rows}
use Rattle.value_column.proofs.Opened.{in_front, put_in, behind}

module _ {X : Type 0} (d : X) where
  abbrev pub tab : ℕ → (ℕ → X) → List X
  tab n f = map f (range_with_len 0 n)

  pub tab-length : (n : ℕ) (f : ℕ → X) → length (tab n f) ≡ n
  tab-length n f = length-map-range_with_len f 0 n

  pub tab-at : (n : ℕ) (f : ℕ → X) (k : ℕ) → k < n → get_or (tab n f) k d ≡ f k
  tab-at n f k h = get_or-map-range_with_len f 0 n k k d h (omega arith)

  pub tab-get : (n : ℕ) (f : ℕ → X) (k : ℕ) → k < n → slice_get (tab n f) k ≡ Some (f k)
  tab-get n f k h = slice_get-get_or (tab n f) k d (omega (arith, tab-length n f)) ∙ ap Some (tab-at n f k h)

  tab-is : (n : ℕ) (g : ℕ → X) (xs : List X) → length xs ≡ n → ((k : ℕ) → k < n → get_or xs k d ≡ g k) → tab n g ≡ xs
  tab-is n g xs len h = sym (fill_by_all g xs n d len h)

  pub tab-same : (n : ℕ) (f g : ℕ → X) → ((r : ℕ) → g r ≡ f r) → tab n g ≡ tab n f
  tab-same n f g h = tab-is n g (tab n f) (tab-length n f) (λ k m. tab-at n f k m ∙ sym (h k))

  pub tab-plain : (n : ℕ) (g : ℕ → X) → ((r : ℕ) → g r ≡ d) → tab n g ≡ replicate n d
  tab-plain n g h = tab-is n g (replicate n d) (length-replicate n d) (λ k m. get_or-replicate n k d d m ∙ sym (h k))

  pub tab-set : (n : ℕ) (f g : ℕ → X) (a : ℕ) (v : X) → a < n → g a ≡ v → ((r : ℕ) → r ≢ a → g r ≡ f r) → tab n g ≡ set (tab n f) a v
  tab-set n f g a v h at other = tab-is n g (set (tab n f) a v) (length-set (tab n f) a v ∙ tab-length n f) (λ k m. one k m (cases_eq k a))
    where
      one : (k : ℕ) → k < n → (k ≡ a) ⊎ (k ≢ a) → get_or (set (tab n f) a v) k d ≡ g k
      one k m (inl e) = ap (λ i. get_or (set (tab n f) a v) i d) e ∙ get_or-set_same (tab n f) a v d (omega (arith, tab-length n f)) ∙ sym at ∙ ap g (sym e)
      one k m (inr e) = get_or-set_other (tab n f) a k v d e ∙ tab-at n f k m ∙ sym (other k e)

  pub tab-cleared : (n : ℕ) (f g : ℕ → X) (a b : ℕ) → a < b → b ≤ n → ((r : ℕ) → g r ≡ cond (nat_le a r && nat_lt r b) d (f r)) → tab n g ≡ rows_set a (b - a) d (tab n f)
  tab-cleared n f g a b h within is =
      tab-is n g (rows_set a (b - a) d (tab n f)) (length-rows_set a (b - a) d (tab n f) (omega (arith, tab-length n f)) ∙ tab-length n f)
      (λ k m.
      let end : a + (b - a) ≡ b = omega arith in
      ap (λ e. get_or (take a (tab n f) ++ (replicate (b - a) d ++ drop e (tab n f))) k d) end
      ∙ plain-rows (tab n f) d a b b k (omega (arith, tab-length n f)) h
      ∙ ap (cond (nat_le a k && nat_lt k b) d) (tab-at n f k m) ∙ sym (is k))

  pub tab-opened : (n : ℕ) (f g : ℕ → X) (a m : ℕ) → a + m ≤ n → ((r : ℕ) → r < n → g r ≡ opened a m d f r) → tab n g ≡ rows_inserted a m d (tab n f)
  tab-opened n f g a m h is = tab-is n g (rows_inserted a m d (tab n f)) (length-rows_inserted a m d (tab n f) (omega (arith, tab-length n f)) ∙ tab-length n f) (λ k l. one k l ∙ sym (is k l))
    where
      at : (k : ℕ) → k < n → (k < a) ⊎ (a ≤ k) → (k < a + m) ⊎ (a + m ≤ k) → get_or (take a (tab n f) ++ (replicate m d ++ drop a (tab n f))) k d ≡ opened a m d f k
      at k l (inl u) w =
          get_or_append_left (take a (tab n f)) (replicate m d ++ drop a (tab n f)) d k (omega (arith, length-take-le a (tab n f) (omega (arith, tab-length n f))))
          ∙ get_or-take a (tab n f) k d u ∙ tab-at n f k l ∙ sym (in_front a m k d f u)
      at k l (inr u) (inl w) =
          get_or-append_right (take a (tab n f)) (replicate m d ++ drop a (tab n f)) a k d (length-take-le a (tab n f) (omega (arith, tab-length n f))) u
          ∙ get_or_append_left (replicate m d) (drop a (tab n f)) d (k - a) (omega (arith, length-replicate {A = X} m d)) ∙ get_or-replicate m (k - a) d d (omega arith)
          ∙ sym (put_in a m k d f u w)
      at k l (inr u) (inr w) =
          let place : a + (k - a - m) ≡ k - m = omega arith in
          get_or-append_right (take a (tab n f)) (replicate m d ++ drop a (tab n f)) a k d (length-take-le a (tab n f) (omega (arith, tab-length n f))) u
          ∙ get_or-append_right (replicate m d) (drop a (tab n f)) m (k - a) d (length-replicate m d) (omega arith)
          ∙ get_or-drop a (tab n f) (k - a - m) d ∙ ap (λ i. get_or (tab n f) i d) place ∙ tab-at n f (k - m) (omega arith)
          ∙ sym (behind a m k d f w)

      one : (k : ℕ) → k < n → get_or (rows_inserted a m d (tab n f)) k d ≡ opened a m d f k
      one k l = get_or-take (length (tab n f)) (spliced a a m d (tab n f)) k d (omega (arith, tab-length n f)) ∙ at k l (cases_lt k a) (cases_lt k (a + m))

  pub tab-closed : (n : ℕ) (f g : ℕ → X) (a m : ℕ) → a + m ≤ n → ((r : ℕ) → n ≤ r → f r ≡ d) → ((r : ℕ) → g r ≡ closed a m f r) → tab n g ≡ rows_erased a m d (tab n f)
  tab-closed n f g a m h past is = tab-is n g (rows_erased a m d (tab n f)) (length-rows_erased a m d (tab n f) (omega (arith, tab-length n f)) ∙ tab-length n f) (λ k l. at k l (cases_lt k a) (cases_lt (k + m) n) ∙ sym (is k))
    where
      at : (k : ℕ) → k < n → (k < a) ⊎ (a ≤ k) → (k + m < n) ⊎ (n ≤ k + m) → get_or (take a (tab n f) ++ (drop (a + m) (tab n f) ++ replicate m d)) k d ≡ closed a m f k
      at k l (inl u) w =
          get_or_append_left (take a (tab n f)) (drop (a + m) (tab n f) ++ replicate m d) d k (omega (arith, length-take-le a (tab n f) (omega (arith, tab-length n f))))
          ∙ get_or-take a (tab n f) k d u ∙ tab-at n f k l ∙ sym (cond-true (nat_lt k a) (f k) (f (k + m)) (lt-ltb k a u))
      at k l (inr u) (inl w) =
          let place : a + m + (k - a) ≡ k + m = omega arith in
          get_or-append_right (take a (tab n f)) (drop (a + m) (tab n f) ++ replicate m d) a k d (length-take-le a (tab n f) (omega (arith, tab-length n f))) u
          ∙ get_or_append_left (drop (a + m) (tab n f)) (replicate m d) d (k - a) (omega (arith, length-drop (a + m) (tab n f), tab-length n f))
          ∙ get_or-drop (a + m) (tab n f) (k - a) d ∙ ap (λ i. get_or (tab n f) i d) place ∙ tab-at n f (k + m) w
          ∙ sym (cond-false (nat_lt k a) (f k) (f (k + m)) (le-ltb k a u))
      at k l (inr u) (inr w) =
          let left : length (drop (a + m) (tab n f)) ≡ n - (a + m) = omega (arith, length-drop (a + m) (tab n f), tab-length n f) in
          get_or-append_right (take a (tab n f)) (drop (a + m) (tab n f) ++ replicate m d) a k d (length-take-le a (tab n f) (omega (arith, tab-length n f))) u
          ∙ get_or-append_right (drop (a + m) (tab n f)) (replicate m d) (n - (a + m)) (k - a) d left (omega arith)
          ∙ get_or-replicate m (k - a - (n - (a + m))) d d (omega arith)
          ∙ sym (past (k + m) w) ∙ sym (cond-false (nat_lt k a) (f k) (f (k + m)) (le-ltb k a u))

  pub tab-written : (n : ℕ) (f g h : ℕ → X) (vs : List X) (a m : ℕ) → length vs ≡ m → a + m ≤ n → ((k : ℕ) → k < m → get_or vs k d ≡ h k) → ((r : ℕ) → g r ≡ cond (nat_le a r && nat_lt r (a + m)) (h (r - a)) (f r)) → tab n g ≡ take a (tab n f) ++ (vs ++ drop (a + length vs) (tab n f))
  tab-written n f g h vs a m len within items is = tab-is n g (take a (tab n f) ++ (vs ++ drop (a + length vs) (tab n f))) whole (λ k l. at k l (cases_lt k a) (cases_lt k (a + m)) ∙ sym (is k))
    where
      whole : length (take a (tab n f) ++ (vs ++ drop (a + length vs) (tab n f))) ≡ n
      whole = omega (arith, length-append (take a (tab n f)) (vs ++ drop (a + length vs) (tab n f)), length-append vs (drop (a + length vs) (tab n f)), length-take-le a (tab n f) (omega (arith, tab-length n f)), length-drop (a + length vs) (tab n f), tab-length n f)

      at : (k : ℕ) → k < n → (k < a) ⊎ (a ≤ k) → (k < a + m) ⊎ (a + m ≤ k) → get_or (take a (tab n f) ++ (vs ++ drop (a + length vs) (tab n f))) k d ≡ cond (nat_le a k && nat_lt k (a + m)) (h (k - a)) (f k)
      at k l (inl u) w =
          get_or_append_left (take a (tab n f)) (vs ++ drop (a + length vs) (tab n f)) d k (omega (arith, length-take-le a (tab n f) (omega (arith, tab-length n f))))
          ∙ get_or-take a (tab n f) k d u ∙ tab-at n f k l ∙ sym (cond-false (nat_le a k && nat_lt k (a + m)) (h (k - a)) (f k) (and_left (nat_le a k) (nat_lt k (a + m)) (lt-leb a k u)))
      at k l (inr u) (inl w) =
          get_or-append_right (take a (tab n f)) (vs ++ drop (a + length vs) (tab n f)) a k d (length-take-le a (tab n f) (omega (arith, tab-length n f))) u
          ∙ get_or_append_left vs (drop (a + length vs) (tab n f)) d (k - a) (omega arith) ∙ items (k - a) (omega arith)
          ∙ sym (cond-true (nat_le a k && nat_lt k (a + m)) (h (k - a)) (f k) (and_from _ _ (le-leb a k u) (lt-ltb k (a + m) w)))
      at k l (inr u) (inr w) =
          let place : a + length vs + (k - a - m) ≡ k = omega arith in
          get_or-append_right (take a (tab n f)) (vs ++ drop (a + length vs) (tab n f)) a k d (length-take-le a (tab n f) (omega (arith, tab-length n f))) u
          ∙ get_or-append_right vs (drop (a + length vs) (tab n f)) m (k - a) d len (omega arith)
          ∙ get_or-drop (a + length vs) (tab n f) (k - a - m) d ∙ ap (λ i. get_or (tab n f) i d) place ∙ tab-at n f k l
          ∙ sym (cond-false (nat_le a k && nat_lt k (a + m)) (h (k - a)) (f k) (and_right (nat_le a k) (nat_lt k (a + m)) (le-ltb k (a + m) w)))

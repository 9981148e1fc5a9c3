-- Entries in the order of their keys: what is found at a place, and what an edit at a place makes of them.
use Rattle.std.proofs.Common.{◌≡◌, ℕ, zero, suc, ◌+◌, ◌<◌, ◌≤◌, true, false, cond, List, [], ◌∷◌, length, get_or, set, Some, None, refl, sym, ap, subst, ◌∙◌, arith}
use Rattle.std.specs.List.{insert, remove}
use Rattle.std.specs.Ordering.{is_lt, is_eq, match_ordering, ordering_reverse}
use Rattle.std.specs.declared.cmp.Ordering.{Ordering}
use Rattle.std.specs.declared.cmp.Ordering.TheVariants.{Less, Equal, Greater}
use Rattle.std.specs.FinMap.Entries.{below_all, find, is_sorted}
use Rattle.std.specs.BTreeMap.{insert_entry, is_at}
use Rattle.std.specs.Map.{remove_entry}
use Rattle.std.specs.Cmp.{IsTotalOrder}
use Rattle.std.proofs.lemmas.Cmp.{tied_itself}
use Rattle.calc_model.proofs.Areas.{both_true}

of_less : (o : Ordering) → is_lt o ≡ true → o ≡ Less
of_less Less h = refl
of_less Equal h = cc
of_less Greater h = cc

module _ {K : Type 0} {R : K → K → Ordering} (o : IsTotalOrder R) where
  flip_less : (x y : K) → R x y ≡ Less → R y x ≡ Greater
  flip_less x y h = o.antisymm y x ∙ ap ordering_reverse h

  flip_greater : (x y : K) → R x y ≡ Greater → R y x ≡ Less
  flip_greater x y h = o.antisymm y x ∙ ap ordering_reverse h

  tied : (x y : K) → x ≡ y → R y x ≡ Equal
  tied x y h = subst (λ z. R y z ≡ Equal) (sym h) (tied_itself o y)

  pub greater_apart : (x k : K) → R x k ≡ Greater → is_eq (R k x) ≡ false
  greater_apart x k h = ap is_eq (flip_greater x k h)

  pub smaller_apart : (x k : K) → R x k ≡ Less → is_eq (R k x) ≡ false
  smaller_apart x k h = ap is_eq (flip_less x k h)

module _ {K X : Type 0} {R : K → K → Ordering} (o : IsTotalOrder R) where
  -- each key before that place is smaller than k
  abbrev pub AreSmaller : List (K × X) → K → ℕ → K × X → Type 0
  AreSmaller es k at d = (j : ℕ) → j < at → R (get_or es j d).0 k ≡ Less

  -- a key below all is below the one at a place
  below_at : (x : K) (es : List (K × X)) (at : ℕ) (d : K × X) → below_all R x es ≡ true → at < length es → R x (get_or es at d).0 ≡ Less
  below_at x [] at d h within = absurd (omega arith)
  below_at x (e ∷ es) zero d h within = of_less (R x e.0) (both_true (is_lt (R x e.0)) (below_all R x es) h).0
  below_at x (e ∷ es) (suc at) d h within = below_at x es at d (both_true (is_lt (R x e.0)) (below_all R x es) h).1 (omega arith)

  -- the keys before a place are smaller than the one there
  pub smaller_before : (es : List (K × X)) (k : K) (at : ℕ) (d : K × X) → is_sorted R es ≡ true → at < length es → (get_or es at d).0 ≡ k → AreSmaller es k at d
  smaller_before [] k at d sorted within is j before = absurd (omega arith)
  smaller_before (e ∷ es) k zero d sorted within is j before = absurd (omega arith)
  smaller_before (e ∷ es) k (suc at) d sorted within is zero before =
      subst (λ x. R e.0 x ≡ Less) is (below_at e.0 es at d (both_true (below_all R e.0 es) (is_sorted R es) sorted).0 (omega arith))
  smaller_before (e ∷ es) k (suc at) d sorted within is (suc j) before =
      smaller_before es k at d (both_true (below_all R e.0 es) (is_sorted R es) sorted).1 (omega arith) is j (omega arith)

  -- so they are in the rest of the entries
  smaller_behind : (e : K × X) (es : List (K × X)) (k : K) (at : ℕ) (d : K × X) → AreSmaller (e ∷ es) k (suc at) d → AreSmaller es k at d
  smaller_behind e es k at d smaller j before = smaller (suc j) (omega arith)

  first_greater : (e : K × X) (es : List (K × X)) (k : K) (at : ℕ) (d : K × X) → AreSmaller (e ∷ es) k (suc at) d → R k e.0 ≡ Greater
  first_greater e es k at d smaller = flip_less o e.0 k (smaller 0 (omega arith))

  -- a value that is given to a key takes the place of the one there
  pub insert_over : (es : List (K × X)) (k : K) (v : X) (at : ℕ) (d : K × X) → AreSmaller es k at d → at < length es → (get_or es at d).0 ≡ k → insert_entry R es k v ≡ set es at (k, v)
  insert_over [] k v at d smaller within is = absurd (omega arith)
  insert_over (e ∷ es) k v zero d smaller within is =
      ap (λ r. match_ordering r ((k, v) ∷ e ∷ es) ((e.0, v) ∷ es) (e ∷ insert_entry R es k v)) (tied o e.0 k is)
      ∙ ap (λ x. (x, v) ∷ es) is
  insert_over (e ∷ es) k v (suc at) d smaller within is =
      ap (λ r. match_ordering r ((k, v) ∷ e ∷ es) ((e.0, v) ∷ es) (e ∷ insert_entry R es k v)) (first_greater e es k at d smaller)
      ∙ ap (λ rest. e ∷ rest) (insert_over es k v at d (smaller_behind e es k at d smaller) (omega arith) is)

  -- a new key goes before the first that is greater
  pub insert_new : (es : List (K × X)) (k : K) (v : X) (at : ℕ) (d : K × X) → AreSmaller es k at d → at ≤ length es → (at < length es → R (get_or es at d).0 k ≡ Greater) → insert_entry R es k v ≡ insert es at (k, v)
  insert_new [] k v zero d smaller within next = refl
  insert_new [] k v (suc at) d smaller within next = absurd (omega arith)
  insert_new (e ∷ es) k v zero d smaller within next =
      ap (λ r. match_ordering r ((k, v) ∷ e ∷ es) ((e.0, v) ∷ es) (e ∷ insert_entry R es k v)) (flip_greater o e.0 k (next (omega arith)))
  insert_new (e ∷ es) k v (suc at) d smaller within next =
      ap (λ r. match_ordering r ((k, v) ∷ e ∷ es) ((e.0, v) ∷ es) (e ∷ insert_entry R es k v)) (first_greater e es k at d smaller)
      ∙ ap (λ rest. e ∷ rest) (insert_new es k v at d (smaller_behind e es k at d smaller) (omega arith) (λ more. next (omega arith)))

  -- the entry of a key goes with its place
  pub remove_at : (es : List (K × X)) (k : K) (at : ℕ) (d : K × X) → AreSmaller es k at d → at < length es → (get_or es at d).0 ≡ k → remove_entry (is_at (R k)) es ≡ remove es at
  remove_at [] k at d smaller within is = absurd (omega arith)
  remove_at (e ∷ es) k zero d smaller within is =
      ap (λ r. cond (is_eq r) es (e ∷ remove_entry (is_at (R k)) es)) (tied o e.0 k is)
  remove_at (e ∷ es) k (suc at) d smaller within is =
      ap (λ r. cond (is_eq r) es (e ∷ remove_entry (is_at (R k)) es)) (first_greater e es k at d smaller)
      ∙ ap (λ rest. e ∷ rest) (remove_at es k at d (smaller_behind e es k at d smaller) (omega arith) is)

  -- the value of a key is the one at its place
  pub found_at : (es : List (K × X)) (k : K) (at : ℕ) (d : K × X) → AreSmaller es k at d → at < length es → (get_or es at d).0 ≡ k → find R k es ≡ Some (get_or es at d).1
  found_at [] k at d smaller within is = absurd (omega arith)
  found_at (e ∷ es) k zero d smaller within is =
      ap (λ r. cond (is_eq r) (Some e.1) (find R k es)) (tied o e.0 k is)
  found_at (e ∷ es) k (suc at) d smaller within is =
      ap (λ r. cond (is_eq r) (Some e.1) (find R k es)) (first_greater e es k at d smaller)
      ∙ found_at es k at d (smaller_behind e es k at d smaller) (omega arith) is

  -- a key that is tied with none isn't found
  pub not_found : (es : List (K × X)) (k : K) (d : K × X) → ((j : ℕ) → j < length es → is_eq (R k (get_or es j d).0) ≡ false) → find R k es ≡ None
  not_found [] k d apart = refl
  not_found (e ∷ es) k d apart =
      ap (λ b. cond b (Some e.1) (find R k es)) (apart 0 (omega arith))
      ∙ not_found es k d (λ j within. apart (suc j) (omega arith))

  -- no key is smaller than the one before it
  pub ordered_by_place : (es : List (K × X)) (at : ℕ) (d : K × X) → is_sorted R es ≡ true → at + 1 < length es → is_lt (R (get_or es (at + 1) d).0 (get_or es at d).0) ≡ false
  ordered_by_place [] at d sorted within = absurd (omega arith)
  ordered_by_place (e ∷ es) zero d sorted within =
      let less = below_at e.0 es 0 d (both_true (below_all R e.0 es) (is_sorted R es) sorted).0 (omega arith) in
      ap is_lt (flip_less o e.0 (get_or es 0 d).0 less)
  ordered_by_place (e ∷ es) (suc at) d sorted within =
      let next : suc at + 1 ≡ suc (at + 1) = omega arith in
      subst (λ j. is_lt (R (get_or (e ∷ es) j d).0 (get_or es at d).0) ≡ false) (sym next)
      (ordered_by_place es at d (both_true (below_all R e.0 es) (is_sorted R es) sorted).1 (omega arith))

-- Pages that are full, but for the last that has items.
use Rattle.std.proofs.Common.{◌≡◌, ℕ, zero, suc, ◌-◌, ◌*◌, ◌<◌, ◌≤◌, min, List, [], ◌∷◌, ◌++◌, take, drop, length, get_or, refl, sym, ap, subst, ◌∙◌, arith, append_assoc}
use Rattle.std.proofs.Math.ListN.{set}
use Rattle.std.proofs.lemmas.List.{length-append}
use Rattle.paged_list.specs.Pages.{PageItems, Packed, Roomy, flat, places_for}

module _ {T : Type 0} where
  -- a page between the others
  pub flat-at : (k : ℕ) (ps : List (PageItems T)) (d : PageItems T) → k < length ps → flat ps ≡ flat (take k ps) ++ ((get_or ps k d).items ++ flat (drop (suc k) ps))
  flat-at k [] d h = absurd (omega arith)
  flat-at zero (p ∷ ps) d h = refl
  flat-at (suc k) (p ∷ ps) d h = ap (λ v. p.items ++ v) (flat-at k ps d (omega arith)) ∙ sym (append_assoc p.items (flat (take k ps)) ((get_or ps k d).items ++ flat (drop (suc k) ps)))

  pub flat-set : (k : ℕ) (ps : List (PageItems T)) (p : PageItems T) → k < length ps → flat (set ps k p) ≡ flat (take k ps) ++ (p.items ++ flat (drop (suc k) ps))
  flat-set k [] p h = absurd (omega arith)
  flat-set zero (q ∷ ps) p h = refl
  flat-set (suc k) (q ∷ ps) p h = ap (λ v. q.items ++ v) (flat-set k ps p (omega arith)) ∙ sym (append_assoc q.items (flat (take k ps)) (p.items ++ flat (drop (suc k) ps)))

  pub packed-length : (n : ℕ) (ps : List (PageItems T)) → Packed n ps → length (flat ps) ≡ n
  packed-length n [] h = sym h
  packed-length n (p ∷ ps) h = omega (arith, h.0, packed-length (n - 4096) ps h.1, length-append p.items (flat ps))

  pub packed-at : (k n : ℕ) (ps : List (PageItems T)) (d : PageItems T) → Packed n ps → k < length ps → length (get_or ps k d).items ≡ min 4096 (n - k * 4096)
  packed-at k n [] d h l = absurd (omega arith)
  packed-at zero n (p ∷ ps) d h l = omega (arith, h.0)
  packed-at (suc k) n (p ∷ ps) d h l = omega (arith, packed-at k (n - 4096) ps d h.1 (omega arith))

  -- the items in front of a page
  pub packed-front : (k n : ℕ) (ps : List (PageItems T)) → Packed n ps → k * 4096 ≤ n → length (flat (take k ps)) ≡ k * 4096
  packed-front zero n ps h l = refl
  packed-front (suc k) n [] h l = omega (arith, h)
  packed-front (suc k) n (p ∷ ps) h l = omega (arith, h.0, packed-front k (n - 4096) ps h.1 (omega arith), length-append p.items (flat (take k ps)))

  -- an item's page is there
  pub packed-reach : (k n : ℕ) (ps : List (PageItems T)) → Packed n ps → k * 4096 < n → k < length ps
  packed-reach k n [] h l = absurd (omega (arith, h))
  packed-reach zero n (p ∷ ps) h l = omega arith
  packed-reach (suc k) n (p ∷ ps) h l = omega (arith, packed-reach k (n - 4096) ps h.1 (omega arith))

  pub packed-set : (k n : ℕ) (ps : List (PageItems T)) (p d : PageItems T) → Packed n ps → length p.items ≡ length (get_or ps k d).items → Packed n (set ps k p)
  packed-set k n [] p d h e = h
  packed-set zero n (q ∷ ps) p d h e = (e ∙ h.0, h.1)
  packed-set (suc k) n (q ∷ ps) p d h e = (h.0, packed-set k (n - 4096) ps p d h.1 e)

  -- one item more in the last page
  pub packed-more : (k n : ℕ) (ps : List (PageItems T)) (p d : PageItems T) → Packed n ps → k < length ps → k * 4096 ≤ n → n < suc k * 4096 → length p.items ≡ suc (length (get_or ps k d).items) → Packed (suc n) (set ps k p)
  packed-more k n [] p d h l from to e = absurd (omega arith)
  packed-more zero n (q ∷ ps) p d h l from to e = let same : n - 4096 ≡ suc n - 4096 = omega arith in (omega (arith, e, h.0), subst (λ m. Packed m ps) same h.1)
  packed-more (suc k) n (q ∷ ps) p d h l from to e = let next : suc (n - 4096) ≡ suc n - 4096 = omega arith in (omega (arith, h.0), subst (λ m. Packed m (set ps k p)) next (packed-more k (n - 4096) ps p d h.1 (omega arith) (omega arith) (omega arith) e))

  pub roomy-at : (k c : ℕ) (ps : List (PageItems T)) (d : PageItems T) → Roomy c ps → k < length ps → places_for (c - k * 4096) ≤ (get_or ps k d).capacity
  roomy-at k c [] d h l = absurd (omega arith)
  roomy-at zero c (p ∷ ps) d h l = let e : c ≡ c - zero * 4096 = omega arith in subst (λ m. places_for m ≤ p.capacity) e h.0
  roomy-at (suc k) c (p ∷ ps) d h l = let e : c - 4096 - k * 4096 ≡ c - suc k * 4096 = omega arith in subst (λ m. places_for m ≤ (get_or ps k d).capacity) e (roomy-at k (c - 4096) ps d h.1 (omega arith))

  pub roomy-set : (k c : ℕ) (ps : List (PageItems T)) (p d : PageItems T) → Roomy c ps → (get_or ps k d).capacity ≤ p.capacity → Roomy c (set ps k p)
  roomy-set k c [] p d h l = h
  roomy-set zero c (q ∷ ps) p d h l = (omega (arith, h.0, l), h.1)
  roomy-set (suc k) c (q ∷ ps) p d h l = (h.0, roomy-set k (c - 4096) ps p d h.1 l)

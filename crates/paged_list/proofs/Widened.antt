-- Pages that are added, and pages that can hold more.
use Rattle.std.proofs.Common.{◌≡◌, ℕ, zero, suc, ◌-◌, ◌*◌, ◌<◌, ◌≤◌, List, [], ◌∷◌, ◌++◌, length, get_or, refl, sym, ap, subst, arith}
use Rattle.std.proofs.Math.ListN.{set}
use Rattle.paged_list.specs.Pages.{PageItems, Packed, Roomy, flat, places_for}

module _ {T : Type 0} where
  pub flat-more : (ps : List (PageItems T)) (p : PageItems T) → p.items ≡ [] → flat (ps ++ p ∷ []) ≡ flat ps
  flat-more [] p h = ap (λ v. v ++ []) h
  flat-more (q ∷ ps) p h = ap (λ v. q.items ++ v) (flat-more ps p h)

  pub packed-longer : (n : ℕ) (ps : List (PageItems T)) (p : PageItems T) → p.items ≡ [] → Packed n ps → Packed n (ps ++ p ∷ [])
  packed-longer n [] p h e = (omega (arith, ap length h, e), omega (arith, e))
  packed-longer n (q ∷ ps) p h e = (e.0, packed-longer (n - 4096) ps p h e.1)

  pub roomy-longer : (c : ℕ) (ps : List (PageItems T)) (p : PageItems T) → Roomy c ps → Roomy c (ps ++ p ∷ [])
  roomy-longer c [] p e = (subst (λ m. places_for m ≤ p.capacity) (sym e) (omega arith), omega (arith, e))
  roomy-longer c (q ∷ ps) p e = (e.0, roomy-longer (c - 4096) ps p e.1)

  pub roomy-from : (c : ℕ) (ps : List (PageItems T)) (d : PageItems T) → c ≤ length ps * 4096 → ((k : ℕ) → k < length ps → places_for (c - k * 4096) ≤ (get_or ps k d).capacity) → Roomy c ps
  roomy-from c [] d h wide = omega (arith, h)
  roomy-from c (p ∷ ps) d h wide =
      let first : c - zero * 4096 ≡ c = omega arith in (
        subst (λ m. places_for m ≤ p.capacity) first (wide zero (omega arith)),
        roomy-from (c - 4096) ps d (omega (arith, h)) (λ k l. let next : c - suc k * 4096 ≡ c - 4096 - k * 4096 = omega arith in subst (λ m. places_for m ≤ (get_or ps k d).capacity) next (wide (suc k) (omega arith))),
      )

  -- the items stay where each page's do
  pub flat-kept : (k : ℕ) (ps : List (PageItems T)) (p d : PageItems T) → p.items ≡ (get_or ps k d).items → flat (set ps k p) ≡ flat ps
  flat-kept k [] p d h = refl
  flat-kept zero (q ∷ ps) p d h = ap (λ v. v ++ flat ps) h
  flat-kept (suc k) (q ∷ ps) p d h = ap (λ v. q.items ++ v) (flat-kept k ps p d h)

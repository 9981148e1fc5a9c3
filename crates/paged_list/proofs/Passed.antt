-- An item that goes through pages.
use Rattle.std.proofs.Common.{◌≡◌, ℕ, zero, suc, ◌-◌, ◌*◌, ◌<◌, ◌≤◌, List, [], ◌∷◌, ◌++◌, take, drop, length, get_or, insert, remove, refl, sym, ap, subst, ◌∙◌, arith, append_assoc}
use Rattle.std.proofs.Math.ListN.{set}
use Rattle.std.proofs.lemmas.List.{append-nil}
use Rattle.std.proofs.lemmas.List.Edits.{insert-append_left}
use Rattle.paged_list.specs.Pages.{PageItems, KeepsShape, Packed, Roomy, flat, put_behind}

module _ {T : Type 0} where
  behind-more : (k : ℕ) (q : PageItems T) (ps : List (PageItems T)) (ys : List T) → flat (take (suc k) (q ∷ ps)) ++ ys ≡ q.items ++ (flat (take k ps) ++ ys)
  behind-more k q ps ys = append_assoc q.items (flat (take k ps)) ys

  pub squeezed : (k : ℕ) (ps : List (PageItems T)) (p d : PageItems T) (at : ℕ) (x y : T) → k < length ps → at ≤ length (get_or ps k d).items → p.items ++ y ∷ [] ≡ insert (get_or ps k d).items at x → put_behind (set ps k p) (suc k) zero y ≡ put_behind ps k at x
  squeezed k [] p d at x y h l e = absurd (omega arith)
  squeezed zero (q ∷ ps) p d at x y h l e =
      ap (λ v. v ++ y ∷ flat ps) (append-nil p.items)
      ∙ sym (append_assoc p.items (y ∷ []) (flat ps))
      ∙ ap (λ v. v ++ flat ps) e ∙ sym (insert-append_left q.items (flat ps) at x l)
  squeezed (suc k) (q ∷ ps) p d at x y h l e =
      behind-more (suc k) q (set ps k p) (insert (flat (drop (suc k) (set ps k p))) zero y)
      ∙ ap (λ v. q.items ++ v) (squeezed k ps p d at x y (omega arith) l e)
      ∙ sym (behind-more k q ps (insert (flat (drop k ps)) at x))

  pub pulled : (k : ℕ) (ps : List (PageItems T)) (p d : PageItems T) (x y : T) → k < length ps → y ∷ p.items ≡ (get_or ps k d).items ++ x ∷ [] → flat (take k (set ps k p)) ++ y ∷ flat (drop k (set ps k p)) ≡ flat (take (suc k) ps) ++ x ∷ flat (drop (suc k) ps)
  pulled k [] p d x y h e = absurd (omega arith)
  pulled zero (q ∷ ps) p d x y h e =
      ap (λ v. v ++ flat ps) e ∙ append_assoc q.items (x ∷ []) (flat ps) ∙ ap (λ v. v ++ x ∷ flat ps) (sym (append-nil q.items))
  pulled (suc k) (q ∷ ps) p d x y h e =
      behind-more k q (set ps k p) (y ∷ flat (drop k (set ps k p)))
      ∙ ap (λ v. q.items ++ v) (pulled k ps p d x y (omega arith) e)
      ∙ sym (behind-more (suc k) q ps (x ∷ flat (drop (suc k) ps)))

  pub first-out : (k : ℕ) (ps : List (PageItems T)) (p d : PageItems T) (y : T) → k < length ps → 1 ≤ length (get_or ps k d).items → y ≡ get_or (get_or ps k d).items zero y → p.items ≡ remove (get_or ps k d).items zero → flat (take k (set ps k p)) ++ y ∷ flat (drop k (set ps k p)) ≡ flat ps
  first-out k [] p d y h l e is = absurd (omega arith)
  first-out zero (q ∷ ps) p d y h l e is = ap (λ v. y ∷ v ++ flat ps) is ∙ ap (λ v. v ++ flat ps) (head q.items y l e)
    where
      head : {X : Type 0} (xs : List X) (z : X) → 1 ≤ length xs → z ≡ get_or xs zero z → z ∷ remove xs zero ≡ xs
      head [] z l e = absurd (omega arith)
      head (x ∷ xs) z l e = ap (λ w. w ∷ xs) e
  first-out (suc k) (q ∷ ps) p d y h l e is =
      behind-more k q (set ps k p) (y ∷ flat (drop k (set ps k p))) ∙ ap (λ v. q.items ++ v) (first-out k ps p d y (omega arith) l e is)

  -- pages that keep their shape
  pub shape-same : (ps : List (PageItems T)) → KeepsShape ps ps
  shape-same ps = record { pages = refl; sizes = λ k d. refl; capacities = λ k d. omega arith }

  pub shape-step : (ps qs rs : List (PageItems T)) → KeepsShape ps qs → KeepsShape qs rs → KeepsShape ps rs
  shape-step ps qs rs h l = record {
    pages = l.pages ∙ h.pages;
    sizes = λ k d. l.sizes k d ∙ h.sizes k d;
    capacities = λ k d. omega (arith, h.capacities k d, l.capacities k d);
  }

  pub shape-set : (k : ℕ) (ps : List (PageItems T)) (p d : PageItems T) → length p.items ≡ length (get_or ps k d).items → (get_or ps k d).capacity ≤ p.capacity → KeepsShape ps (set ps k p)
  shape-set k [] p d e l = shape-same []
  shape-set zero (q ∷ ps) p d e l = record { pages = refl; sizes = sizes; capacities = capacities }
    where
      sizes : (k : ℕ) (c : PageItems T) → length (get_or (p ∷ ps) k c).items ≡ length (get_or (q ∷ ps) k c).items
      sizes zero c = e
      sizes (suc k) c = refl

      capacities : (k : ℕ) (c : PageItems T) → (get_or (q ∷ ps) k c).capacity ≤ (get_or (p ∷ ps) k c).capacity
      capacities zero c = l
      capacities (suc k) c = omega arith
  shape-set (suc k) (q ∷ ps) p d e l =
      let rest : KeepsShape ps (set ps k p) = shape-set k ps p d e l in
      record { pages = ap suc rest.pages; sizes = sizes rest; capacities = capacities rest }
    where
      sizes : KeepsShape ps (set ps k p) → (j : ℕ) (c : PageItems T) → length (get_or (q ∷ set ps k p) j c).items ≡ length (get_or (q ∷ ps) j c).items
      sizes rest zero c = refl
      sizes rest (suc j) c = rest.sizes j c

      capacities : KeepsShape ps (set ps k p) → (j : ℕ) (c : PageItems T) → (get_or (q ∷ ps) j c).capacity ≤ (get_or (q ∷ set ps k p) j c).capacity
      capacities rest zero c = omega arith
      capacities rest (suc j) c = rest.capacities j c

  shape-rest : (p q : PageItems T) (ps qs : List (PageItems T)) → KeepsShape (p ∷ ps) (q ∷ qs) → KeepsShape ps qs
  shape-rest p q ps qs h = record { pages = omega (arith, h.pages); sizes = λ k d. h.sizes (suc k) d; capacities = λ k d. h.capacities (suc k) d }

  pub packed-same : (n : ℕ) (ps qs : List (PageItems T)) → KeepsShape ps qs → Packed n ps → Packed n qs
  packed-same n [] [] s h = h
  packed-same n [] (q ∷ qs) s h = absurd (omega (arith, s.pages))
  packed-same n (p ∷ ps) [] s h = absurd (omega (arith, s.pages))
  packed-same n (p ∷ ps) (q ∷ qs) s h = (s.sizes zero p ∙ h.0, packed-same (n - 4096) ps qs (shape-rest p q ps qs s) h.1)

  pub roomy-same : (c : ℕ) (ps qs : List (PageItems T)) → KeepsShape ps qs → Roomy c ps → Roomy c qs
  roomy-same c [] [] s h = h
  roomy-same c [] (q ∷ qs) s h = absurd (omega (arith, s.pages))
  roomy-same c (p ∷ ps) [] s h = absurd (omega (arith, s.pages))
  roomy-same c (p ∷ ps) (q ∷ qs) s h = (omega (arith, s.capacities zero p, h.0), roomy-same (c - 4096) ps qs (shape-rest p q ps qs s) h.1)

  -- one item less in the last page
  pub packed-less : (k n : ℕ) (ps : List (PageItems T)) (p d : PageItems T) → Packed n ps → k < length ps → k * 4096 < n → n ≤ suc k * 4096 → suc (length p.items) ≡ length (get_or ps k d).items → Packed (n - 1) (set ps k p)
  packed-less k n [] p d h l from to e = absurd (omega arith)
  packed-less zero n (q ∷ ps) p d h l from to e = let same : n - 4096 ≡ n - 1 - 4096 = omega arith in (omega (arith, e, h.0), subst (λ m. Packed m ps) same h.1)
  packed-less (suc k) n (q ∷ ps) p d h l from to e =
      let next : n - 4096 - 1 ≡ n - 1 - 4096 = omega arith in
      (omega (arith, h.0, from), subst (λ m. Packed m (set ps k p)) next (packed-less k (n - 4096) ps p d h.1 (omega arith) (omega arith) (omega arith) e))

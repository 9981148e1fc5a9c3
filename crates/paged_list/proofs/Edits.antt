-- An item that is put in or taken out, by its page and its place there.
use Rattle.std.proofs.Common.{◌≡◌, ℕ, zero, suc, ◌+◌, ◌-◌, ◌*◌, ◌/◌, ◌%◌, ◌<◌, ◌≤◌, min, List, [], ◌∷◌, ◌++◌, take, drop, length, get_or, insert, remove, refl, inl, inr, sym, ap, ◌∙◌, arith, append_assoc}
use Rattle.std.proofs.Math.ListN.{set}
use Rattle.std.proofs.lemmas.List.{append-nil, drop_all, take_all}
use Rattle.std.proofs.lemmas.Bool.{cases_lt}
use Rattle.std.proofs.lemmas.List.Edits.{insert-append_left, insert-append_right, remove-append_left, remove-append_right}
use Rattle.paged_list.specs.Pages.{PageItems, AreFull, ArePages, HasPlace, Packed, Roomy, flat, places_for, put_behind}
use Rattle.paged_list.proofs.Packs.{flat-at, flat-set, packed-at, packed-front, packed-reach, roomy-at}

module _ {T : Type 0} where
  flat-cut : (k : ℕ) (ps : List (PageItems T)) → flat ps ≡ flat (take k ps) ++ flat (drop k ps)
  flat-cut zero ps = refl
  flat-cut (suc k) [] = refl
  flat-cut (suc k) (p ∷ ps) = ap (λ v. p.items ++ v) (flat-cut k ps) ∙ sym (append_assoc p.items (flat (take k ps)) (flat (drop k ps)))

  pub inserted-in : (k : ℕ) (ps : List (PageItems T)) (p d : PageItems T) (at : ℕ) (x : T) → k < length ps → at ≤ length (get_or ps k d).items → p.items ≡ insert (get_or ps k d).items at x → flat (set ps k p) ≡ put_behind ps k at x
  inserted-in k [] p d at x h l e = absurd (omega arith)
  inserted-in zero (q ∷ ps) p d at x h l e = ap (λ v. v ++ flat ps) e ∙ sym (insert-append_left q.items (flat ps) at x l)
  inserted-in (suc k) (q ∷ ps) p d at x h l e =
      ap (λ v. q.items ++ v) (inserted-in k ps p d at x (omega arith) l e) ∙ sym (append_assoc q.items (flat (take k ps)) (insert (flat (drop k ps)) at x))

  pub put-there : (at n : ℕ) (ps : List (PageItems T)) (x : T) → Packed n ps → at ≤ n → put_behind ps (at / 4096) (at % 4096) x ≡ insert (flat ps) at x
  put-there at n ps x h l =
      let k : ℕ = at / 4096 in
      let place : at % 4096 ≡ at - k * 4096 = omega arith in
      ap (λ i. flat (take k ps) ++ insert (flat (drop k ps)) i x) place
      ∙ sym (insert-append_right (flat (take k ps)) (flat (drop k ps)) (k * 4096) at x (packed-front k n ps h (omega arith)) (omega arith))
      ∙ ap (λ v. insert v at x) (sym (flat-cut k ps))

  -- an item of a page goes, and the page takes another at its end
  pub turned : (at n : ℕ) (ps : List (PageItems T)) (p d : PageItems T) (x : T) (all : List T) → Packed n ps → at / 4096 < length ps → at / 4096 * 4096 ≤ n → at % 4096 < length (get_or ps (at / 4096) d).items → p.items ≡ remove (get_or ps (at / 4096) d).items (at % 4096) ++ x ∷ [] → flat (take (at / 4096 + 1) ps) ++ x ∷ flat (drop (at / 4096 + 1) ps) ≡ all → flat (set ps (at / 4096) p) ≡ remove all at
  turned at n ps p d x all h there below inside is whole =
      let k : ℕ = at / 4096 in
      let q : PageItems T = get_or ps k d in
      let rest : List T = flat (drop (suc k) ps) in
      let place : at % 4096 ≡ at - k * 4096 = omega arith in
      let next : k + 1 ≡ suc k = omega arith in
      let joined : flat (take k ps) ++ (q.items ++ x ∷ rest) ≡ all = sym (behind k ps d there (x ∷ rest)) ∙ ap (λ n. flat (take n ps) ++ x ∷ flat (drop n ps)) (sym next) ∙ whole in
      flat-set k ps p there
      ∙ ap (λ v. flat (take k ps) ++ (v ++ rest)) is
      ∙ ap (λ v. flat (take k ps) ++ v) (append_assoc (remove q.items (at % 4096)) (x ∷ []) rest)
      ∙ ap (λ v. flat (take k ps) ++ v) (sym (remove-append_left q.items (x ∷ rest) (at % 4096) inside))
      ∙ ap (λ i. flat (take k ps) ++ remove (q.items ++ x ∷ rest) i) place
      ∙ sym (remove-append_right (flat (take k ps)) (q.items ++ x ∷ rest) (k * 4096) at (packed-front k n ps h below) (omega arith))
      ∙ ap (λ v. remove v at) joined
    where
      behind : (k : ℕ) (ps : List (PageItems T)) (d : PageItems T) → k < length ps → (ys : List T) → flat (take (suc k) ps) ++ ys ≡ flat (take k ps) ++ ((get_or ps k d).items ++ ys)
      behind k [] d h ys = absurd (omega arith)
      behind zero (p ∷ ps) d h ys = ap (λ v. v ++ ys) (append-nil p.items)
      behind (suc k) (p ∷ ps) d h ys = append_assoc p.items (flat (take (suc k) ps)) ys ∙ ap (λ v. p.items ++ v) (behind k ps d (omega arith) ys) ∙ sym (append_assoc p.items (flat (take k ps)) ((get_or ps k d).items ++ ys))

  -- an item of a page goes, and none comes
  pub gone : (at n : ℕ) (ps : List (PageItems T)) (p d : PageItems T) → Packed n ps → at < n → p.items ≡ remove (get_or ps (at / 4096) d).items (at % 4096) → flat (set ps (at / 4096) p) ≡ remove (flat ps) at
  gone at n ps p d h l is =
      let k : ℕ = at / 4096 in
      let q : PageItems T = get_or ps k d in
      let there : k < length ps = packed-reach k n ps h (omega arith) in
      let inside : at % 4096 < length q.items = omega (arith, l, packed-at k n ps d h there) in
      let place : at % 4096 ≡ at - k * 4096 = omega arith in
      flat-set k ps p there
      ∙ ap (λ v. flat (take k ps) ++ (v ++ flat (drop (suc k) ps))) is
      ∙ ap (λ v. flat (take k ps) ++ v) (sym (remove-append_left q.items (flat (drop (suc k) ps)) (at % 4096) inside))
      ∙ ap (λ i. flat (take k ps) ++ remove (q.items ++ flat (drop (suc k) ps)) i) place
      ∙ sym (remove-append_right (flat (take k ps)) (q.items ++ flat (drop (suc k) ps)) (k * 4096) at (packed-front k n ps h (omega arith)) (omega arith))
      ∙ ap (λ v. remove v at) (sym (flat-at k ps d there))

  -- pages with room for an item more
  pub roomy-reach : (k c : ℕ) (ps : List (PageItems T)) → Roomy c ps → k * 4096 < c → k < length ps
  roomy-reach k c [] h l = absurd (omega (arith, h))
  roomy-reach zero c (p ∷ ps) h l = omega arith
  roomy-reach (suc k) c (p ∷ ps) h l = omega (arith, roomy-reach k (c - 4096) ps h.1 (omega arith))

  pub full-pages : (n c : ℕ) (ps : List (PageItems T)) → ArePages ps n c → (m : ℕ) → m * 4096 < c → m * 4096 ≤ n → AreFull ps zero m
  full-pages n c ps h m below within = λ k d from to.
      let there : k < length ps = roomy-reach k c ps h.roomy (omega (arith, below, to)) in
      let places : places_for (c - k * 4096) ≤ (get_or ps k d).capacity = roomy-at k c ps d h.roomy there in
      (omega (arith, packed-at k n ps d h.packed there, within, to), omega (arith, places, below, to))

  pub has-place : (n c : ℕ) (ps : List (PageItems T)) → ArePages ps n c → n < c → HasPlace ps n
  has-place n c ps h l =
      let there : n / 4096 < length ps = roomy-reach (n / 4096) c ps h.roomy (omega (arith, l)) in
      record {
        within = there;
        full = full-pages n c ps h (n / 4096) (omega (arith, l)) (omega arith);
        last = λ d.
            let places : places_for (c - n / 4096 * 4096) ≤ (get_or ps (n / 4096) d).capacity = roomy-at (n / 4096) c ps d h.roomy there in
            omega (arith, places, l, packed-at (n / 4096) n ps d h.packed there);
      }

-- a slice that is written back whole
pub written-back : {X : Type 0} (n : ℕ) (new old : List X) → n ≡ length old → length new ≡ length old → take n (new ++ drop (length new) old) ≡ new
written-back n new old e l =
    ap (λ v. take n (new ++ v)) (drop_all (length new) old (omega (arith, l))) ∙ ap (take n) (append-nil new) ∙ take_all n new (omega (arith, e, l))

-- the place of an item that came through pages is one of the last page
pub put-place : (at n i size : ℕ) → at ≤ n → size ≡ min 4096 (n - n / 4096 * 4096) → i ≤ at % 4096 → (at / 4096 < n / 4096 → i ≡ zero) → i ≤ size
put-place at n i size l e h first = elim (cases_lt (at / 4096) (n / 4096)) [ inl b ↦ omega (arith, first b) | inr b ↦ omega (arith, l, e, h, b) ]

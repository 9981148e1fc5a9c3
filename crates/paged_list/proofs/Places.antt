-- An item by its page and its place there.
use Rattle.std.proofs.Common.{◌≡◌, ℕ, suc, ◌-◌, ◌*◌, ◌<◌, ◌/◌, ◌%◌, List, ◌++◌, take, drop, length, get_or, sym, ap, ◌∙◌, arith}
use Rattle.std.proofs.Math.ListN.{set}
use Rattle.std.proofs.lemmas.List.{get_or-append_right, get_or_append_left, set-append_left, set-append_right}
use Rattle.paged_list.specs.Pages.{PageItems, Packed, flat}
use Rattle.paged_list.proofs.Packs.{flat-at, flat-set, packed-at, packed-front, packed-length, packed-reach}

module _ {T : Type 0} where
  -- the page of an item
  pub record Placed (at n : ℕ) (ps : List (PageItems T)) (d : PageItems T) : Type 0 where
    pub there : at / 4096 < length ps
    pub inside : at % 4096 < length (get_or ps (at / 4096) d).items
    pub front : length (flat (take (at / 4096) ps)) ≡ at / 4096 * 4096

  pub placed : (at n : ℕ) (ps : List (PageItems T)) (d : PageItems T) → Packed n ps → at < n → Placed at n ps d
  placed at n ps d h l =
      let there : at / 4096 < length ps = packed-reach (at / 4096) n ps h (omega arith) in
      record {
        there = there;
        inside = omega (arith, l, packed-at (at / 4096) n ps d h there);
        front = packed-front (at / 4096) n ps h (omega arith);
      }

  pub item-at : (at n : ℕ) (ps : List (PageItems T)) (d : PageItems T) (x : T) → Packed n ps → at < n → get_or (flat ps) at x ≡ get_or (get_or ps (at / 4096) d).items (at % 4096) x
  item-at at n ps d x h l =
      let p : Placed at n ps d = placed at n ps d h l in
      let k : ℕ = at / 4096 in
      let behind : at - k * 4096 ≡ at % 4096 = omega arith in
      ap (λ v. get_or v at x) (flat-at k ps d p.there)
      ∙ get_or-append_right (flat (take k ps)) ((get_or ps k d).items ++ flat (drop (suc k) ps)) (k * 4096) at x p.front (omega arith)
      ∙ ap (λ i. get_or ((get_or ps k d).items ++ flat (drop (suc k) ps)) i x) behind
      ∙ get_or_append_left (get_or ps k d).items (flat (drop (suc k) ps)) x (at % 4096) p.inside

  pub item-set : (at n : ℕ) (ps : List (PageItems T)) (p d : PageItems T) (x : T) → Packed n ps → at < n → p.items ≡ set (get_or ps (at / 4096) d).items (at % 4096) x → flat (set ps (at / 4096) p) ≡ set (flat ps) at x
  item-set at n ps p d x h l is =
      let w : Placed at n ps d = placed at n ps d h l in
      let k : ℕ = at / 4096 in
      let behind : at % 4096 ≡ at - k * 4096 = omega arith in
      flat-set k ps p w.there
      ∙ ap (λ v. flat (take k ps) ++ (v ++ flat (drop (suc k) ps))) is
      ∙ ap (λ v. flat (take k ps) ++ v) (sym (set-append_left (get_or ps k d).items (flat (drop (suc k) ps)) (at % 4096) x w.inside))
      ∙ ap (λ i. flat (take k ps) ++ set ((get_or ps k d).items ++ flat (drop (suc k) ps)) i x) behind
      ∙ sym (set-append_right (flat (take k ps)) ((get_or ps k d).items ++ flat (drop (suc k) ps)) (k * 4096) at x w.front (omega arith))
      ∙ ap (λ v. set v at x) (sym (flat-at k ps d w.there))

  -- an item of the list is one of its n
  pub within : (at n : ℕ) (ps : List (PageItems T)) (items : List T) → Packed n ps → flat ps ≡ items → at < length items → at < n
  within at n ps items h is l = omega (arith, l, packed-length n ps h, ap length is)

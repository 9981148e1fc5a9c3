use Rattle.std.proofs.Common.{◌+◌, ◌-◌, ◌*◌, ◌<◌, ◌≤◌, ℕ, [], length, get_or, inl, inr, ap, subst, sym, ◌∙◌, arith}
use Rattle.std.proofs.Math.ListN.{set}
use Rattle.std.proofs.lemmas.List.{get_or-set_same, get_or-set_other}
use Rattle.std.proofs.lemmas.Bool.{cases_eq}
use Rattle.paged_list.specs.Pages.{PageItems, places_for}
use Rattle.paged_list.proofs.Widened.{flat-kept, roomy-from}
use Rattle.paged_list.proofs.Passed.{shape-set, shape-step}
use Rattle.paged_list.proofs.through.widen.Goals as goal

pub returns-in_err-reserve-clause-items : goal.returns-in_err-reserve-clause-items
returns-in_err-reserve-clause-items g c =
    flat-kept c.loop-k.k c.loop-k.pages c.reserve.new.self c.index-pages-k.result c.reserve.ensures.items ∙ c.loop-k.invariant.items

pub loop-k-preserved : goal.loop-k-preserved
loop-k-preserved g c =
    let ps = c.loop-k.pages in
    let k = c.loop-k.k in
    let p = c.reserve.new.self in
    let q = c.index-pages-k.result in
    let there : k < length ps = omega (arith, c.loop-k-test.true, c.loop-k.invariant.shape.pages) in
    let wide : (j : ℕ) (d : PageItems g.row.T.Denot) → j < k + 1 → places_for (c.args.capacity - j * 4096) ≤ (get_or (set ps k p) j d).capacity =
    λ j d h. elim (cases_eq j k) [
      | inl e ↦ subst (λ i. places_for (c.args.capacity - i * 4096) ≤ (get_or (set ps k p) i d).capacity) (sym e)
          (subst (λ v. places_for (c.args.capacity - k * 4096) ≤ v.capacity) (sym (get_or-set_same ps k p d there))
          (subst (λ m. places_for m ≤ p.capacity) c.loop-k.invariant.left (omega (arith, c.in_ok-reserve.ensures.ok, c.places_for.ensures))))
      | inr n ↦ subst (λ v. places_for (c.args.capacity - j * 4096) ≤ v.capacity) (sym (get_or-set_other ps k j p d n)) (c.loop-k.invariant.wide j d (omega (arith, h, n)))
    ] in
    record {
      shape = shape-step c.args.pages.now ps (set ps k p) c.loop-k.invariant.shape (shape-set k ps p q (ap length c.reserve.ensures.items) c.reserve.ensures.capacity);
      items = flat-kept k ps p q c.reserve.ensures.items ∙ c.loop-k.invariant.items;
      left = c.saturating_sub-left.ensures ∙ omega (arith, c.loop-k.invariant.left);
      wide = wide;
    }

pub returns-clause-ok : goal.returns-clause-ok
returns-clause-ok g c =
    let none : PageItems g.row.T.Denot = record { items = []; capacity = 0 } in
    roomy-from c.args.capacity c.loop-k.pages none (omega (arith, c.requires, c.loop-k.invariant.shape.pages))
    (λ k h. c.loop-k.invariant.wide k none (omega (arith, h, c.loop-k-test.false, c.loop-k.invariant.shape.pages)))

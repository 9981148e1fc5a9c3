use Rattle.std.proofs.Common.{◌≡◌, ◌||◌, true, take, sym, ap, subst, ◌∙◌, ⊎_elim, inl, inr}
use Rattle.std.proofs.lemmas.Bool.{or_cases}
use Rattle.std.proofs.lemmas.List.Folds.{list_any_at, list_any_more}
use Rattle.calc_addr.specs.Places.{Rectangle, covers}
use Rattle.dirty_spread.specs.Marking.{is_touched}
use Rattle.dirty_spread.proofs.Stepping.{marked_as, marked_then}
use Rattle.dirty_spread.proofs.marking.mark_areas.Goals as goal

pub loop-area-preserved : goal.loop-area-preserved
loop-area-preserved c =
    let areas = c.args.areas.now in
    let i = c.loop-area.area-index in
    let area = c.area-item.result in
    marked_as c.args.formulas.now
    (λ q h. ⊎_elim (λ (e : is_touched q (take i areas) ≡ true). inl (h.0, e)) (λ (e : covers area q ≡ true). inr (h.0, e))
    (or_cases (is_touched q (take i areas)) (covers area q)
    (sym (list_any_more (λ a. covers a q) areas i area c.loop-area-test.true ∙ ap (λ (a : Rectangle). is_touched q (take i areas) || covers a q) (sym c.area-item.is)) ∙ h.1)))
    (λ q h. h)
    (marked_then c.args.formulas.now c.loop-area.invariant
    (marked_as c.args.formulas.now (λ q h. h)
    (λ q h. (h.0, list_any_at (λ a. covers a q) areas i area c.loop-area-test.true (subst (λ (a : Rectangle). covers a q ≡ true) c.area-item.is h.1)))
    c.in_ok-mark_area.ensures))

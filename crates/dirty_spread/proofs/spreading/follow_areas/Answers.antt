use Rattle.std.proofs.Common.{◌||◌, take, sym, ap, ◌∙◌}
use Rattle.std.proofs.lemmas.Bool.{or_cases}
use Rattle.std.proofs.lemmas.List.Folds.{list_any_more}
use Rattle.calc_addr.specs.Places.{Rectangle}
use Rattle.calc_model.specs.Listeners.{ReadAreas, reads_one_of}
use Rattle.dirty_spread.specs.Marking.{reads_any_of}
use Rattle.dirty_spread.proofs.Reading.{reaching_one_is_stale}
use Rattle.dirty_spread.proofs.Stepping.{marked_as, marked_then}
use Rattle.dirty_spread.proofs.spreading.follow_areas.Goals as goal

pub loop-area-preserved : goal.loop-area-preserved
loop-area-preserved g c =
    let read : ReadAreas = g.H.Dependents.areas c.args.hub.now in
    let areas = c.args.areas.now in
    let i = c.loop-area.area-index in
    let area = c.area-item.result in
    marked_as c.args.formulas.now
    (λ q h. or_cases (reads_any_of read (take i areas) q) (reads_one_of read area q)
    (sym (list_any_more (λ a. reads_one_of read a q) areas i area c.loop-area-test.true ∙ ap (λ (a : Rectangle). reads_any_of read (take i areas) q || reads_one_of read a q) (sym c.area-item.is)) ∙ h))
    (λ q h. h)
    (marked_then c.args.formulas.now c.loop-area.invariant
    (marked_as c.args.formulas.now (λ q h. h) (λ q h. reaching_one_is_stale read areas i area c.loop-area-test.true c.area-item.is q h) c.in_ok-follow.ensures))

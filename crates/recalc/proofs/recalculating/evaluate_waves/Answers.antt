use Rattle.std.proofs.Common.{◌≡◌, ◌+◌, ◌≤◌, suc, [], refl, sym, ap, subst, ◌∙◌, length, arith}
use Rattle.std.specs.Prelude.{slice_index_or}
use Rattle.calc_addr.specs.Places.{Place}
use Rattle.cell_runs.specs.CellLists.{all_cells}
use Rattle.listener_hub.specs.Hubs.{areas_read}
use Rattle.formula_results.specs.Results.{results_of}
use Rattle.dirty_spread.specs.Marking.{is_in_any}
use Rattle.dirty_spread.specs.Waves.{AreWaves, Problem, has, problem_of}
use Rattle.recalc.specs.Evaluating.{AreBefore, KeepsOthers}
use Rattle.recalc.proofs.Listed.{runs_have}
use Rattle.recalc.proofs.Adding.{as_evaluated, as_ready}
use Rattle.calc_model.specs.Stale.{count_in}
use Rattle.cell_runs.specs.WaveLists.{lists_of}
use Rattle.recalc.specs.Units.{HasUnits, HaveUnits}
use Rattle.recalc.proofs.Spending.{done_before, done_fit, units_fit, wave_fits}
use Rattle.recalc.proofs.UnitWaves.{same_waves}
use Rattle.recalc.proofs.Waving.{all_circles, known_grounded, next_wave, shown, wave_only_stale, wave_ready}
use Rattle.recalc.proofs.recalculating.evaluate_waves.Goals as goal

pub evaluate_wave-requires-clause-ready : goal.evaluate_wave-requires-clause-ready
evaluate_wave-requires-clause-ready g c =
    let problem : Problem = problem_of (areas_read c.args.hub.now) c.args.stale.now c.args.circles.now in
    let book = c.args.parts.now in
    let waves = c.in_ok-waves.field-0.waves in
    let ordered : AreWaves problem waves = c.in_ok-waves.ensures.waves in
    let k = c.loop-k.k in
    let same : all_cells c.wave-wave.result.now ≡ slice_index_or waves k [] = c.wave-wave.ensures in
    as_ready book (results_of c.loop-k.results) (has (slice_index_or waves k [])) (λ q. is_in_any q c.wave-wave.result.now)
    (λ q. ap (λ cells. has cells q) (sym same) ∙ runs_have c.wave-wave.result.now q)
    (wave_ready book problem c.requires.holds c.requires.formulas (results_of c.loop-k.results) k c.loop-k.invariant.before waves ordered)

pub loop-k-preserved : goal.loop-k-preserved
loop-k-preserved g c =
    let problem : Problem = problem_of (areas_read c.args.hub.now) c.args.stale.now c.args.circles.now in
    let book = c.args.parts.now in
    let waves = c.in_ok-waves.field-0.waves in
    let ordered : AreWaves problem waves = c.in_ok-waves.ensures.waves in
    let k = c.loop-k.k in
    let now = results_of c.loop-k.results in
    let new = results_of c.evaluate_wave.new.results in
    let same : all_cells c.wave-wave.result.now ≡ slice_index_or waves k [] = c.wave-wave.ensures in
    let tests : (q : Place) → is_in_any q c.wave-wave.result.now ≡ has (slice_index_or waves k []) q = λ q. sym (runs_have c.wave-wave.result.now q) ∙ ap (λ cells. has cells q) same in
    let kept : KeepsOthers (has (slice_index_or waves k [])) now new = λ q h. c.evaluate_wave.ensures.others q (tests q ∙ h) in
    let own = c.in_ok-count.field-0 in
    let has_units = c.in_ok-count.ensures.units in
    let fits : own ≤ length (all_cells c.wave-wave.result.now) = omega (arith, has_units.2, units_fit book has_units.0 has_units.1.each, ap (λ ps. length ps) has_units.1.cells) in
    let is : lists_of c.waves.inside.runs.items c.waves.inside.starts.items ≡ waves = c.waves.view_is in
    let next : k + 1 ≡ suc k = omega arith in
    record {
      before = subst (λ n. AreBefore book problem n new) (sym next)
          (next_wave book problem c.requires.holds c.requires.formulas now k c.loop-k.invariant.before waves ordered new
          (as_evaluated book new (λ q. is_in_any q c.wave-wave.result.now) (has (slice_index_or waves k [])) tests c.in_ok-count.ensures.done) kept);
      others = λ q h. kept q (wave_only_stale book problem c.requires.holds c.requires.formulas now k c.loop-k.invariant.before waves ordered q h) ∙ c.loop-k.invariant.others q h;
      steps = subst (λ n. c.evaluate_wave.new.steps.count ≤ c.args.steps.now.count + count_in book (done_before book problem c.requires.holds c.requires.formulas c.requires.book n)) (sym next)
          (omega (arith, c.loop-k.invariant.steps, c.in_ok-count.ensures.steps, ap (λ ps. length ps) same, wave_fits book problem c.requires.holds c.requires.formulas c.requires.book waves ordered k));
      few = subst (λ n. c.loop-k.count + own ≤ count_in book (done_before book problem c.requires.holds c.requires.formulas c.requires.book n)) (sym next)
          (omega (arith, c.loop-k.invariant.few, fits, ap (λ ps. length ps) same, wave_fits book problem c.requires.holds c.requires.formulas c.requires.book waves ordered k));
      units = subst (λ n. HaveUnits book (lists_of c.waves.inside.runs.items c.waves.inside.starts.items) n (c.loop-k.count + own)) (sym next)
          (c.loop-k.count, own, c.loop-k.invariant.units, subst (λ cells. HasUnits book cells own) (same ∙ ap (λ lists. slice_index_or lists k []) (sym is)) has_units, refl);
      parts = c.evaluate_wave.ensures.parts ∙ c.loop-k.invariant.parts;
    }

pub evaluate_wave-requires-clause-room : goal.evaluate_wave-requires-clause-room
evaluate_wave-requires-clause-room g c =
    let problem : Problem = problem_of (areas_read c.args.hub.now) c.args.stale.now c.args.circles.now in
    let book = c.args.parts.now in
    let waves = c.in_ok-waves.field-0.waves in
    let ordered : AreWaves problem waves = c.in_ok-waves.ensures.waves in
    let k = c.loop-k.k in
    let same : all_cells c.wave-wave.result.now ≡ slice_index_or waves k [] = c.wave-wave.ensures in
    omega (
      arith,
      c.requires.room,
      c.loop-k.invariant.steps,
      ap (λ ps. length ps) same,
      wave_fits book problem c.requires.holds c.requires.formulas c.requires.book waves ordered k,
      done_fit book problem c.requires.holds c.requires.formulas c.requires.book c.requires.in_order (suc k),
    )

pub returns-in_err-count-clause-others : goal.returns-in_err-count-clause-others
returns-in_err-count-clause-others g c = λ q h.
    let problem : Problem = problem_of (areas_read c.args.hub.now) c.args.stale.now c.args.circles.now in
    let book = c.args.parts.now in
    let waves = c.in_ok-waves.field-0.waves in
    let ordered : AreWaves problem waves = c.in_ok-waves.ensures.waves in
    let k = c.loop-k.k in
    let now = results_of c.loop-k.results in
    let same : all_cells c.wave-wave.result.now ≡ slice_index_or waves k [] = c.wave-wave.ensures in
    let apart = wave_only_stale book problem c.requires.holds c.requires.formulas now k c.loop-k.invariant.before waves ordered q h in
    c.evaluate_wave.ensures.others q (sym (runs_have c.wave-wave.result.now q) ∙ ap (λ cells. has cells q) same ∙ apart) ∙ c.loop-k.invariant.others q h

pub returns-clause-values : goal.returns-clause-values
returns-clause-values g c =
    let problem : Problem = problem_of (areas_read c.args.hub.now) c.args.stale.now c.args.circles.now in
    let waves = c.in_ok-waves.field-0.waves in
    let ordered : AreWaves problem waves = c.in_ok-waves.ensures.waves in
    let size : c.len-k-end.result ≡ length waves = c.len-k-end.ensures in
    let taken : length waves ≤ c.loop-k.k = omega (arith, size, c.loop-k-test.false) in
    shown c.args.parts.now problem c.requires.holds c.requires.formulas (results_of c.loop-k.results) c.loop-k.k c.loop-k.invariant.before waves ordered taken (λ q h e. sym (c.requires.beside q h) ∙ e)

pub returns-clause-known : goal.returns-clause-known
returns-clause-known g c =
    let problem : Problem = problem_of (areas_read c.args.hub.now) c.args.stale.now c.args.circles.now in
    let waves = c.in_ok-waves.field-0.waves in
    let ordered : AreWaves problem waves = c.in_ok-waves.ensures.waves in
    let size : c.len-k-end.result ≡ length waves = c.len-k-end.ensures in
    let taken : length waves ≤ c.loop-k.k = omega (arith, size, c.loop-k-test.false) in
    known_grounded c.args.parts.now problem c.requires.holds c.requires.formulas (results_of c.loop-k.results) c.loop-k.k c.loop-k.invariant.before waves ordered taken (λ q h e. sym (c.requires.beside q h) ∙ e)

pub returns-clause-circles : goal.returns-clause-circles
returns-clause-circles g c =
    let problem : Problem = problem_of (areas_read c.args.hub.now) c.args.stale.now c.args.circles.now in
    let waves = c.in_ok-waves.field-0.waves in
    let ordered : AreWaves problem waves = c.in_ok-waves.ensures.waves in
    let size : c.len-k-end.result ≡ length waves = c.len-k-end.ensures in
    let taken : length waves ≤ c.loop-k.k = omega (arith, size, c.loop-k-test.false) in
    all_circles c.args.parts.now problem c.requires.holds c.requires.formulas (results_of c.loop-k.results) c.loop-k.k c.loop-k.invariant.before waves ordered taken (λ q h e. sym (c.requires.beside q h) ∙ e)
    c.in_ok-waves.field-0.circular c.in_ok-waves.ensures.circular

pub returns-clause-steps : goal.returns-clause-steps
returns-clause-steps g c =
    let problem : Problem = problem_of (areas_read c.args.hub.now) c.args.stale.now c.args.circles.now in
    omega (arith, c.loop-k.invariant.steps, done_fit c.args.parts.now problem c.requires.holds c.requires.formulas c.requires.book c.requires.in_order c.loop-k.k)

pub overflow_add-count : goal.overflow_add-count
overflow_add-count g c =
    let problem : Problem = problem_of (areas_read c.args.hub.now) c.args.stale.now c.args.circles.now in
    let book = c.args.parts.now in
    let waves = c.in_ok-waves.field-0.waves in
    let ordered : AreWaves problem waves = c.in_ok-waves.ensures.waves in
    let k = c.loop-k.k in
    let same : all_cells c.wave-wave.result.now ≡ slice_index_or waves k [] = c.wave-wave.ensures in
    let has_units = c.in_ok-count.ensures.units in
    omega (
      arith,
      c.requires.room,
      c.loop-k.invariant.few,
      has_units.2,
      units_fit book has_units.0 has_units.1.each,
      ap (λ ps. length ps) has_units.1.cells,
      ap (λ ps. length ps) same,
      wave_fits book problem c.requires.holds c.requires.formulas c.requires.book waves ordered k,
      done_fit book problem c.requires.holds c.requires.formulas c.requires.book c.requires.in_order (suc k),
    )

pub returns-clause-units : goal.returns-clause-units
returns-clause-units g c =
    let waves = c.in_ok-waves.field-0.waves in
    let size : c.len-k-end.result ≡ length waves = c.len-k-end.ensures in
    let all : c.loop-k.k ≡ length waves = omega (arith, size, c.loop-k-test.false, c.loop-k.auto.k-end) in (
      waves,
      same_waves c.args.parts.now (areas_read c.args.hub.now) c.args.stale.now c.args.circles.now c.requires.holds c.requires.beside waves c.in_ok-waves.ensures.waves,
      subst (λ n. HaveUnits c.args.parts.now waves n c.loop-k.count) all (subst (λ lists. HaveUnits c.args.parts.now lists c.loop-k.k c.loop-k.count) c.waves.view_is c.loop-k.invariant.units),
    )

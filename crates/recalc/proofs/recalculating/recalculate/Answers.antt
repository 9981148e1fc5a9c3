use Rattle.std.proofs.Common.{◌≡◌, None, sym, ap, ◌∙◌, arith}
use Rattle.std.specs.Prelude.{if◌then◌else◌}
use Rattle.calc_addr.specs.Places.{Place}
use Rattle.listener_hub.specs.Hubs.{areas_read}
use Rattle.formula_results.specs.Results.{results_of}
use Rattle.dirty_spread.specs.Waves.{has}
use Rattle.recalc.specs.Recalculation.{Stored, kept}
use Rattle.recalc.proofs.Counting.{few_listed}
use Rattle.recalc.proofs.Listed.{runs_have, union_has}
use Rattle.recalc.proofs.Starting.{all_right, before_first, listed}
use Rattle.recalc.proofs.recalculating.recalculate.Goals as goal

pub returns-in_err-clear_runs-clause-others : goal.returns-in_err-clear_runs-clause-others
returns-in_err-clear_runs-clause-others g c = λ q h. c.clear_runs.ensures.others q (sym (runs_have c.runs.result.now q) ∙ ap (λ cells. has cells q) c.runs.ensures ∙ h)

pub returns-in_err-runs-clause-others : goal.returns-in_err-runs-clause-others
returns-in_err-runs-clause-others g c = λ q h. c.clear_runs.ensures.others q (sym (runs_have c.runs.result.now q) ∙ ap (λ cells. has cells q) c.runs.ensures ∙ h)

pub returns-in_err-outside-clause-others : goal.returns-in_err-outside-clause-others
returns-in_err-outside-clause-others g c = λ q h. c.clear_runs.ensures.others q (sym (runs_have c.runs.result.now q) ∙ ap (λ cells. has cells q) c.runs.ensures ∙ h)

pub returns-in_err-circular-clause-others : goal.returns-in_err-circular-clause-others
returns-in_err-circular-clause-others g c = λ q h. c.evaluate_waves.ensures.others q h ∙ c.clear_runs.ensures.others q (sym (runs_have c.runs.result.now q) ∙ ap (λ cells. has cells q) c.runs.ensures ∙ h)

pub returns-clause-others : goal.returns-clause-others
returns-clause-others g c = λ q h. c.evaluate_waves.ensures.others q h ∙ c.clear_runs.ensures.others q (sym (runs_have c.runs.result.now q) ∙ ap (λ cells. has cells q) c.runs.ensures ∙ h)

pub evaluate_waves-requires-clause-beside : goal.evaluate_waves-requires-clause-beside
evaluate_waves-requires-clause-beside g c =
    let stored : Stored = record { results = c.args.results.now; circles = c.args.circles.now } in
    let outside = c.in_ok-outside.outside in
    let is : (q : Place) → has outside q ≡ kept c.args.parts.now c.args.stale.now c.args.circles.now q = λ q. union_has c.in_ok-runs.runs.items outside c.in_ok-outside.ensures q ∙ c.in_ok-runs.ensures q in
    listed c.args.parts.now (areas_read c.args.hub.now) c.args.stale.now outside stored c.requires.right c.requires.formulas is

pub evaluate_waves-requires-clause-before : goal.evaluate_waves-requires-clause-before
evaluate_waves-requires-clause-before g c =
    let stored : Stored = record { results = c.args.results.now; circles = c.args.circles.now } in
    let outside = c.in_ok-outside.outside in
    let is : (q : Place) → has outside q ≡ kept c.args.parts.now c.args.stale.now c.args.circles.now q = λ q. union_has c.in_ok-runs.runs.items outside c.in_ok-outside.ensures q ∙ c.in_ok-runs.ensures q in
    before_first c.args.parts.now (areas_read c.args.hub.now) c.args.stale.now outside stored c.requires.right c.requires.formulas is (results_of c.clear_runs.new.results)
    (λ q. c.in_ok-clear_runs.ensures.cleared q ∙ ap (λ b. if b then None else results_of c.args.results.now q) (sym (runs_have c.runs.result.now q) ∙ ap (λ cells. has cells q) c.runs.ensures))

pub returns-clause-right : goal.returns-clause-right
returns-clause-right g c =
    let stored : Stored = record { results = c.args.results.now; circles = c.args.circles.now } in
    let outside = c.in_ok-outside.outside in
    let is : (q : Place) → has outside q ≡ kept c.args.parts.now c.args.stale.now c.args.circles.now q = λ q. union_has c.in_ok-runs.runs.items outside c.in_ok-outside.ensures q ∙ c.in_ok-runs.ensures q in
    all_right c.args.parts.now (areas_read c.args.hub.now) c.args.stale.now outside stored c.requires.right c.requires.formulas is (record { results = c.evaluate_waves.new.results; circles = c.in_ok-circles.circles }) c.in_ok-circular.field-0.circles
    c.in_ok-circular.ensures.values c.in_ok-circular.ensures.known c.in_ok-circular.ensures.circles c.in_ok-circles.ensures.cells

pub returns-in_err-circles-clause-others : goal.returns-in_err-circles-clause-others
returns-in_err-circles-clause-others g c = λ q h. c.evaluate_waves.ensures.others q h ∙ c.clear_runs.ensures.others q (sym (runs_have c.runs.result.now q) ∙ ap (λ cells. has cells q) c.runs.ensures ∙ h)

pub evaluate_waves-requires-clause-room : goal.evaluate_waves-requires-clause-room
evaluate_waves-requires-clause-room g c = omega (arith, c.requires.room.room, few_listed c.args.parts.now c.are_book.ensures c.args.stale.now c.requires.in_order c.requires.formulas)

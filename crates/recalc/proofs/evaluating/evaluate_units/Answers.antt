use Rattle.std.proofs.Common.{refl, arith, ◌+◌, ◌||◌, take, sym, ap, ◌∙◌}
use Rattle.std.proofs.lemmas.List.Folds.{list_any_more}
use Rattle.calc_addr.specs.Places.{Rows}
use Rattle.cell_runs.specs.CellLists.{all_cells}
use Rattle.dirty_spread.proofs.RowLevels.{cells_more, runs_fit}
use Rattle.formula_results.specs.Results.{results_of}
use Rattle.run_unions.specs.Unions.{is_in}
use Rattle.dirty_spread.specs.Marking.{is_in_any}
use Rattle.recalc.specs.CodedUnits.{all_rows_of}
use Rattle.recalc.proofs.Adding.{item_in_any, kept_then, none_in_part, on_way_more, ready_on_way}
use Rattle.recalc.proofs.UnitLists.{rows_item}
use Rattle.recalc.proofs.UnitForms.{unit_coded}
use Rattle.recalc.proofs.evaluating.evaluate_units.Goals as goal

pub evaluate_run-requires-clause-coded : goal.evaluate_run-requires-clause-coded
evaluate_run-requires-clause-coded g c = λ q h.
    unit_coded c.args.parts.now c.args.codes.now c.args.units.now c.requires.coded c.loop-number.number c.index-units-number.result c.rows_of-run.result c.loop-number-test.true c.index-units-number.is c.rows_of-run.ensures q h

pub evaluate_run-requires-clause-ready : goal.evaluate_run-requires-clause-ready
evaluate_run-requires-clause-ready g c =
    let runs = all_rows_of c.args.units.now in
    let i = c.loop-number.number in
    let run = c.rows_of-run.result in
    let at = rows_item c.args.units.now i c.index-units-number.result run c.loop-number-test.true c.index-units-number.is c.rows_of-run.ensures in
    ready_on_way c.args.parts.now (results_of c.args.results.now) (results_of c.loop-number.results) (λ q. is_in_any q (take i runs)) (λ q. is_in_any q runs) (λ q. is_in q run) c.loop-number.invariant.way c.requires.ready
    (item_in_any runs i run at.0 at.1)

pub loop-number-preserved : goal.loop-number-preserved
loop-number-preserved g c =
    let runs = all_rows_of c.args.units.now in
    let i = c.loop-number.number in
    let run = c.rows_of-run.result in
    let at = rows_item c.args.units.now i c.index-units-number.result run c.loop-number-test.true c.index-units-number.is c.rows_of-run.ensures in record {
      way = on_way_more c.args.parts.now (results_of c.args.results.now) (results_of c.loop-number.results) (results_of c.evaluate_run.new.results) (λ q. is_in_any q (take i runs)) (λ q. is_in q run) (λ q. is_in_any q (take (i + 1) runs)) c.loop-number.invariant.way
          c.in_ok-evaluate_run.ensures.done c.evaluate_run.ensures.others
          (λ q. list_any_more (is_in q) runs i run at.0 ∙ ap (λ (r : Rows). is_in_any q (take i runs) || is_in q r) (sym at.1));
      steps = omega (arith, c.loop-number.invariant.steps, c.in_ok-evaluate_run.ensures.steps, cells_more runs i run at.0 at.1);
      parts = c.evaluate_run.ensures.parts ∙ c.loop-number.invariant.parts;
    }

pub evaluate_run-requires-clause-room : goal.evaluate_run-requires-clause-room
evaluate_run-requires-clause-room g c =
    let runs = all_rows_of c.args.units.now in
    let run = c.rows_of-run.result in
    let at = rows_item c.args.units.now c.loop-number.number c.index-units-number.result run c.loop-number-test.true c.index-units-number.is c.rows_of-run.ensures in
    omega (arith, c.requires.room, c.loop-number.invariant.steps, runs_fit runs (all_cells runs) refl c.loop-number.number run at.0 at.1)

pub returns-in_err-evaluate_run-clause-others : goal.returns-in_err-evaluate_run-clause-others
returns-in_err-evaluate_run-clause-others g c =
    let runs = all_rows_of c.args.units.now in
    let i = c.loop-number.number in
    let run = c.rows_of-run.result in
    let at = rows_item c.args.units.now i c.index-units-number.result run c.loop-number-test.true c.index-units-number.is c.rows_of-run.ensures in
    kept_then (results_of c.args.results.now) (results_of c.loop-number.results) (results_of c.evaluate_run.new.results) (λ q. is_in_any q (take i runs)) (λ q. is_in q run) (λ q. is_in_any q runs) c.loop-number.invariant.way.left c.evaluate_run.ensures.others
    (none_in_part runs i run at.0 at.1)

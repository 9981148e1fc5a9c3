use Rattle.std.proofs.Common.{◌≡◌, length, sym, subst, ap, ◌∙◌}
use Rattle.std.proofs.lemmas.List.{length-map}
use Rattle.std.proofs.lemmas.Result.{IfOk-weaker}
use Rattle.std.specs.List.{All}
use Rattle.cell_runs.specs.CellLists.{all_cells}
use Rattle.dirty_spread.specs.Marking.{is_in_any}
use Rattle.dirty_spread.proofs.Cells.{on_ok}
use Rattle.formula_groups.specs.GroupRows.{columns_of}
use Rattle.formula_results.specs.Results.{results_of}
use Rattle.recalc.specs.CodedUnits.{AreCodedUnits, IsCodedUnit, all_rows_of, rows_of}
use Rattle.recalc.specs.Units.{HasUnits}
use Rattle.recalc.proofs.Adding.{as_evaluated, as_ready}
use Rattle.recalc.proofs.Listed.{same_runs}
use Rattle.recalc.proofs.UnitForms.{are_coded, are_units, has_code}
use Rattle.recalc.proofs.evaluating.evaluate_wave.Goals as goal

pub find_units-requires-clause-coded : goal.find_units-requires-clause-coded
find_units-requires-clause-coded g c = λ q is h. has_code c.coded.result.codes.now (columns_of c.coded.result.groups.now) c.args.parts.now c.coded.ensures.formulas q is (c.requires.ready.formula q h)

pub evaluate_units-requires-clause-coded : goal.evaluate_units-requires-clause-coded
evaluate_units-requires-clause-coded g c =
    let columns = columns_of c.coded.result.groups.now in
    are_coded c.coded.result.codes.now columns c.args.parts.now c.coded.ensures.coded c.coded.ensures.formulas c.deref.result.now
    (subst (λ us. All (IsCodedUnit columns) us) (sym c.deref.ensures.value) c.in_ok-find_units.ensures.each)

pub evaluate_units-requires-clause-ready : goal.evaluate_units-requires-clause-ready
evaluate_units-requires-clause-ready g c =
    as_ready c.args.parts.now (results_of c.args.results.now) (λ q. is_in_any q c.args.wave.now) (λ q. is_in_any q (all_rows_of c.deref.result.now))
    (same_runs c.args.wave.now (all_rows_of c.deref.result.now) (sym (ap (λ us. all_cells (all_rows_of us)) c.deref.ensures.value ∙ c.in_ok-find_units.ensures.cells))) c.requires.ready

pub returns-clause-done : goal.returns-clause-done
returns-clause-done g c =
    on_ok c.evaluate_units.result
    (as_evaluated c.args.parts.now (results_of c.evaluate_units.new.results) (λ q. is_in_any q (all_rows_of c.deref.result.now)) (λ q. is_in_any q c.args.wave.now)
    (same_runs (all_rows_of c.deref.result.now) c.args.wave.now (ap (λ us. all_cells (all_rows_of us)) c.deref.ensures.value ∙ c.in_ok-find_units.ensures.cells))) c.evaluate_units.ensures.done

pub returns-clause-others : goal.returns-clause-others
returns-clause-others g c = λ q h. c.evaluate_units.ensures.others q (same_runs (all_rows_of c.deref.result.now) c.args.wave.now (ap (λ us. all_cells (all_rows_of us)) c.deref.ensures.value ∙ c.in_ok-find_units.ensures.cells) q ∙ h)

pub returns-clause-units : goal.returns-clause-units
returns-clause-units g c =
    let units = c.deref.result.now in
    IfOk-weaker c.evaluate_units.result (λ count. count ≡ length units) (HasUnits c.args.parts.now (all_cells c.args.wave.now))
    (λ count is. (
      all_rows_of units,
      are_units c.coded.result.codes.now (columns_of c.coded.result.groups.now) c.args.parts.now c.coded.ensures.coded c.coded.ensures.formulas c.are_apart.ensures.apart c.forms_are_trees.ensures.form (all_cells c.args.wave.now) units
          (subst (AreCodedUnits (columns_of c.coded.result.groups.now) (all_cells c.args.wave.now)) (sym c.deref.ensures.value) c.in_ok-find_units.ensures),
      is ∙ sym (length-map units rows_of),
    ))
    c.evaluate_units.ensures.count

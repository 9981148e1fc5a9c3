use Rattle.std.proofs.Common.{◌≡◌, ◌&&◌, true, sym, ap, subst, ◌∙◌}
use Rattle.std.specs.List.{list_any}
use Rattle.std.proofs.lemmas.Result.{IfOk-weaker}
use Rattle.calc_addr.specs.Places.{Place, covers}
use Rattle.calc_model.specs.Stale.{is_formula_cell, reaches}
use Rattle.calc_model.specs.Touched.{CellSet}
use Rattle.listener_hub.specs.Hubs.{areas_read}
use Rattle.dirty_spread.specs.Spreading.{AreStale}
use Rattle.dirty_spread.specs.Waves.{has}
use Rattle.dirty_spread.proofs.StaleLaws.{stale_cells}
use Rattle.workbook.specs.Touched.{is_stale, is_touched}
use Rattle.recalc.proofs.Counting.{few_formulas}
use Rattle.workbook.proofs.Staleness.{all_reach}
use Rattle.workbook.proofs.Tests.{has_by}
use Rattle.workbook.proofs.stale.stale_cells.Goals as goal

pub returns-then-is_all-clause-cells : goal.returns-then-is_all-clause-cells
returns-then-is_all-clause-cells c = λ q.
    let book = c.args.parts.now in
    let all : c.args.touched.now.all ≡ true = sym c.is_all.ensures ∙ c.if-is_all.true in
    has_by c.in_ok-formulas.formulas q (is_formula_cell book q) (c.in_ok-formulas.ensures.exact q) ∙ sym (all_reach book c.args.touched.now all q)

pub touched_areas-requires-clause-formulas : goal.touched_areas-requires-clause-formulas
touched_areas-requires-clause-formulas c = λ q. has_by c.in_ok-formulas.formulas q (is_formula_cell c.args.parts.now q) (c.in_ok-formulas.ensures.exact q)

pub spread-requires-clause-most : goal.spread-requires-clause-most
spread-requires-clause-most c =
    few_formulas c.args.parts.now c.are_book.ensures c.in_ok-formulas.formulas c.in_ok-formulas.ensures.in_order
    (λ q. has_by c.in_ok-formulas.formulas q (is_formula_cell c.args.parts.now q) (c.in_ok-formulas.ensures.exact q))

pub returns-clause-cells : goal.returns-clause-cells
returns-clause-cells c =
    let book = c.args.parts.now in
    let read = areas_read c.args.hub.now in
    let areas = c.in_ok-areas.areas.items in
    let same : (p : Place) → list_any (λ area. covers area p) areas ≡ is_touched book c.args.touched.now p = c.in_ok-areas.ensures in
    IfOk-weaker c.spread.result (AreStale read c.deref.result.now) (λ cells. (q : Place) → has cells q ≡ is_stale book c.args.touched.now q)
    (λ cells stale q. stale_cells book read c.requires.holds areas cells (subst (λ ts. AreStale read ts cells) c.deref.ensures.value stale) q ∙ ap (λ (s : CellSet). is_formula_cell book q && reaches book s q) (λ i p. same p i)) c.spread.ensures

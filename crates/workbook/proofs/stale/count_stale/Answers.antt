use Rattle.std.proofs.Common.{◌∙◌}
use Rattle.calc_model.specs.Stale.{is_formula_cell, reaches}
use Rattle.calc_model.proofs.Areas.{both_true}
use Rattle.recalc.proofs.Counting.{counted}
use Rattle.workbook.specs.Touched.{is_stale, is_touched}
use Rattle.workbook.proofs.stale.count_stale.Goals as goal

pub returns : goal.returns
returns c =
    let book = c.args.parts.now in
    let touched = c.args.touched.now in
    c.len.ensures ∙ counted book (is_stale book touched) (λ q h. (both_true (is_formula_cell book q) (reaches book (is_touched book touched) q) h).0) c.in_ok-stale.stale c.are_book.ensures c.in_ok-stale.ensures.in_order c.in_ok-stale.ensures.cells

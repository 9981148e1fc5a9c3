use Rattle.std.proofs.Common.{◌≡◌, ◌||◌, ◌++◌, List, sym, ap, ◌∙◌}
use Rattle.std.specs.List.{list_any}
use Rattle.calc_addr.specs.Places.{Rectangle}
use Rattle.calc_model.specs.Listeners.{listed}
use Rattle.calc_model.specs.Touched.{CellSet}
use Rattle.listener_hub.specs.Hubs.{areas_read}
use Rattle.workbook.specs.Readers.{changes_area}
use Rattle.workbook.specs.Touched.{lies_in}
use Rattle.workbook.proofs.Tests.{joins, stays_out, tied_both_ways}
use Rattle.workbook.proofs.row_edits.touch_reader.Goals as goal

pub returns-in_ok-add_cell-clause-cells : goal.returns-in_ok-add_cell-clause-cells
returns-in_ok-add_cell-clause-cells c = λ q.
    let test : CellSet = λ q. list_any (changes_area c.args.change) (listed (areas_read c.args.hub.now q)) in
    let read : c.deref.result.now ≡ listed (areas_read c.args.hub.now c.args.cell) = c.deref.ensures.value ∙ c.in_ok-reads.ensures.ok ∙ ap (λ (xs : List Rectangle). xs ++ listed (areas_read c.args.hub.now c.args.cell)) c.clear.ensures.items in
    joins (lies_in c.args.touched.now) (lies_in c.add_cell.new.self) test c.args.cell q
    (sym (c.is_any_changed.ensures ∙ ap (list_any (changes_area c.args.change)) read) ∙ c.if-is_any_changed.true)
    (c.in_ok-add_cell.ensures.touched q ∙ ap (λ b. lies_in c.args.touched.now q || b) (tied_both_ways c.args.cell q))

pub returns-else-is_any_changed-clause-cells : goal.returns-else-is_any_changed-clause-cells
returns-else-is_any_changed-clause-cells c = λ q.
    let test : CellSet = λ q. list_any (changes_area c.args.change) (listed (areas_read c.args.hub.now q)) in
    let read : c.deref.result.now ≡ listed (areas_read c.args.hub.now c.args.cell) = c.deref.ensures.value ∙ c.in_ok-reads.ensures.ok ∙ ap (λ (xs : List Rectangle). xs ++ listed (areas_read c.args.hub.now c.args.cell)) c.clear.ensures.items in
    stays_out (lies_in c.args.touched.now) test c.args.cell q (sym (c.is_any_changed.ensures ∙ ap (list_any (changes_area c.args.change)) read) ∙ c.if-is_any_changed.false)

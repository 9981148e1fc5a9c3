use Rattle.std.proofs.Common.{ap, ◌∙◌}
use Rattle.std.proofs.lemmas.Result.{IfOk-weaker}
use Rattle.cell_columns.specs.Looks.{with_contents}
use Rattle.cell_columns.proofs.Listed.{all_hold, all_listed}
use Rattle.cell_columns.proofs.columns.CellColumns.entries.Goals as goal

pub returns : goal.returns
returns c =
    IfOk-weaker c.with_contents.result _ _
    (λ entries is.
    is
    ∙ ap (with_contents c.args.self.now) (c.deref.ensures.value ∙ c.in_ok-cells.ensures)
    ∙ all_listed c.args.self.now c.args.self.now (all_hold c.args.self.now c.are_book.ensures.cells_in_order))
    c.with_contents.ensures

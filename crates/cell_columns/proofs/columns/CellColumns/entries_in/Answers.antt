use Rattle.std.proofs.Common.{ap, ◌∙◌}
use Rattle.std.proofs.lemmas.Result.{IfOk-weaker}
use Rattle.calc_addr.specs.Places.{covers}
use Rattle.cell_columns.specs.Looks.{with_contents}
use Rattle.cell_columns.proofs.Listed.{all_hold, listed}
use Rattle.cell_columns.proofs.columns.CellColumns.entries_in.Goals as goal

pub returns : goal.returns
returns c =
    IfOk-weaker c.with_contents.result _ _
    (λ entries is.
    is
    ∙ ap (with_contents c.args.self.now) (c.deref.ensures.value ∙ c.in_ok-cells.ensures)
    ∙ listed c.args.self.now (covers c.args.area) c.args.self.now (all_hold c.args.self.now c.are_book.ensures.cells_in_order))
    c.with_contents.ensures

use Rattle.std.proofs.Common.{sym, ap, ◌∙◌}
use Rattle.std.proofs.lemmas.Result.{IfOk-weaker}
use Rattle.calc_model.specs.Books.{content_at}
use Rattle.calc_model.specs.CellEdits.{CellEntries}
use Rattle.cell_columns.specs.Cells.{cells_only, content_of, slot_at}
use Rattle.cell_columns.specs.Lent.{slots_of}
use Rattle.cell_columns.proofs.Told.{holds}
use Rattle.cell_columns.proofs.columns.CellColumns.content.Goals as goal

pub returns : goal.returns
returns c =
    let codes = c.self.inside.table in
    let columns = slots_of c.self.inside.columns.items in
    IfOk-weaker c.content_at.result _ _
    (λ content is.
    is
    ∙ ap (λ cs. content_of codes c.args.cell (slot_at (slots_of cs) c.args.cell)) c.as_slice.ensures.value
    ∙ sym (holds codes columns c.args.cell c.content_at.ensures.place)
    ∙ ap (λ (es : CellEntries). content_at (cells_only es) c.args.cell) c.self.view_is)
    c.content_at.ensures.content

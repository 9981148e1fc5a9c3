use Rattle.std.proofs.Common.{sym, ap, ◌∙◌}
use Rattle.calc_model.specs.Books.{content_at}
use Rattle.calc_model.specs.CellEdits.{CellEntries}
use Rattle.cell_columns.specs.Cells.{cells_only, content_of, slot_at}
use Rattle.cell_columns.specs.Lent.{slots_of}
use Rattle.cell_columns.proofs.Looked.{lent_of}
use Rattle.cell_columns.proofs.Told.{holds}
use Rattle.cell_columns.proofs.columns.CellColumns.look.Goals as goal

pub returns : goal.returns
returns c =
    let codes = c.self.inside.table in
    let columns = slots_of c.self.inside.columns.items in
    lent_of codes c.args.cell c.slot_ref.result _ (
    ap (λ (es : CellEntries). content_at (cells_only es) c.args.cell) (sym c.self.view_is)
    ∙ holds codes columns c.args.cell c.slot_ref.ensures.place
    ∙ ap (content_of codes c.args.cell) (ap (λ cs. slot_at (slots_of cs) c.args.cell) (sym c.deref.ensures.value) ∙ sym c.slot_ref.ensures.slot)
    )

use Rattle.std.proofs.Common.{sym, ap, subst, ◌∙◌}
use Rattle.std.proofs.lemmas.Result.{on_ok_weaker}
use Rattle.calc_model.specs.declared.change.Change.TheVariants.{Deleted}
use Rattle.cell_columns.specs.Shifted.{AllStayIn, shifted}
use Rattle.cell_columns.proofs.RowsKept.{cleared_stay, deletion_is}
use Rattle.cell_columns.proofs.columns.CellColumns.delete_rows.Goals as goal

pub change_rows-requires-clause-stay : goal.change_rows-requires-clause-stay
change_rows-requires-clause-stay c =
    subst (AllStayIn (Deleted c.args.sheet c.args.place c.args.count)) (sym c.in_ok-clear.ensures.cells)
    (cleared_stay c.args.sheet c.args.place c.args.count c.args.self.now c.requires.rows.from c.requires.rows.some)

pub returns : goal.returns
returns c =
    on_ok_weaker c.change_rows.result
    (λ is.
    is
    ∙ ap (shifted (Deleted c.args.sheet c.args.place c.args.count)) c.in_ok-clear.ensures.cells
    ∙ deletion_is c.args.sheet c.args.place c.args.count c.args.self.now c.are_book.ensures.cells_held c.requires.rows.from c.requires.rows.some)
    c.change_rows.ensures

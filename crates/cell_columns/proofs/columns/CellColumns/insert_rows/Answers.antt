use Rattle.std.proofs.Common.{◌∙◌}
use Rattle.std.proofs.lemmas.Result.{on_ok_weaker}
use Rattle.cell_columns.proofs.RowsKept.{inserted_stay, insertion_is}
use Rattle.cell_columns.proofs.columns.CellColumns.insert_rows.Goals as goal

pub change_rows-requires-clause-stay : goal.change_rows-requires-clause-stay
change_rows-requires-clause-stay c = inserted_stay c.args.sheet c.args.place c.args.count c.args.self.now c.requires.inside

pub returns : goal.returns
returns c =
    on_ok_weaker c.change_rows.result (λ is. is ∙ insertion_is c.args.sheet c.args.place c.args.count c.args.self.now) c.change_rows.ensures

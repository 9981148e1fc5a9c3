use Rattle.std.proofs.Common.{ap, ◌∙◌, arith}
use Rattle.std.proofs.lemmas.Result.{on_ok_weaker}
use Rattle.calc_model.specs.Books.{with_content}
use Rattle.calc_model.proofs.BooksKept.{longer_by_one}
use Rattle.cell_columns.proofs.columns.CellColumns.set_moved.Goals as goal

pub set-requires : goal.set-requires
set-requires c = record { room = omega (arith, c.requires, longer_by_one c.args.self.now c.args.cell c.in_ok-moved.moved) }

pub returns : goal.returns
returns c =
    on_ok_weaker c.set.result (λ is. is ∙ ap (with_content c.args.self.now c.args.cell) c.in_ok-moved.ensures) c.set.ensures.cells

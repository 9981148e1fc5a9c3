use Rattle.std.proofs.Common.{length, ap, ◌∙◌, arith}
use Rattle.std.proofs.lemmas.Result.{on_ok_weaker}
use Rattle.calc_model.proofs.BooksKept.{longer_by_one}
use Rattle.calc_model.specs.CellEdits.{CellEntries}
use Rattle.book_parts.proofs.Copied.{put_one}
use Rattle.book_parts.proofs.generated.add.Goals as goal

pub set-requires : goal.set-requires
set-requires c = record { room = omega (arith, c.requires.room, longer_by_one c.args.cells.now c.args.cell c.args.content.now) }

pub returns-clause-cells : goal.returns-clause-cells
returns-clause-cells c =
    on_ok_weaker c.set.result (λ is. is ∙ put_one c.args.cells.now c.args.cell c.args.content.now c.requires.held) c.set.ensures.cells

pub returns-clause-longer : goal.returns-clause-longer
returns-clause-longer c =
    on_ok_weaker c.set.result (λ is. omega (arith, ap (λ (es : CellEntries). length es) is, longer_by_one c.args.cells.now c.args.cell c.args.content.now)) c.set.ensures.cells

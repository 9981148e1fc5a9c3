use Rattle.std.proofs.Common.{sym, subst}
use Rattle.std.specs.Prelude.{replicate}
use Rattle.block_column.specs.declared.slot.Slot.{Slot}
use Rattle.cell_columns.specs.Taken.{AreTaken}
use Rattle.cell_columns.proofs.Repeating.{taken_many}
use Rattle.cell_columns.proofs.filling.take_uses.Goals as goal

pub returns-in-Formula : goal.returns-in-Formula
returns-in-Formula c =
    subst (λ (x : Slot). AreTaken c.args.codes.now c.take.new.self (replicate c.args.uses x)) (sym c.in-Formula.is)
    (taken_many c.args.codes.now c.take.new.self c.in-Formula.id c.args.uses (c.requires.live c.in-Formula.id c.in-Formula.is) c.requires.some c.take.ensures)

use Rattle.std.proofs.Common.{sym, arith, ◌-◌, ◌∙◌}
use Rattle.block_column.specs.KindTests.{kinds-decided}
use Rattle.block_column.proofs.Kept.{same-row}
use Rattle.block_column.proofs.table.edit_row.Goals as goal

pub returns-then-is-clause-ok : goal.returns-then-is-clause-ok
returns-then-is-clause-ok c =
    same-row c.args.blocks.now.items (c.args.row - 1) c.args.row c.args.old c.args.kind c.requires.old ((kinds-decided c.args.old c.args.kind).0 (sym c.is.ensures ∙ c.if-is.true)) (omega arith) c.requires.blocks.runs

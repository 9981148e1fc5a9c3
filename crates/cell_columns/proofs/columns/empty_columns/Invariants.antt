use Rattle.std.proofs.Common.{◌≡◌, replicate}
use Rattle.block_column.specs.Tables.{no_slots}
use Rattle.cell_columns.specs.Lent.{slots_of}
use Rattle.cell_columns.proofs.columns.empty_columns.Given as goal

abbrev pub invariant-loop : goal.invariant-loop
invariant-loop l = slots_of l.columns.items ≡ replicate l.counter no_slots

use Rattle.std.proofs.Common.{ap, ◌∙◌}
use Rattle.block_column.proofs.Columns.{same-left}
use Rattle.block_column.proofs.column.BlockColumn.reserve.Goals as goal

pub invariant_of-self : goal.invariant_of-self
invariant_of-self c = (same-left c.self.inside.table c.reserve.new.self c.self.invariant c.reserve.ensures.table).column

pub returns-clause-slots : goal.returns-clause-slots
returns-clause-slots c = (same-left c.self.inside.table c.reserve.new.self c.self.invariant c.reserve.ensures.table).slots ∙ ap (λ v. v.slots) c.self.view_is

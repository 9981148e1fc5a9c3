use Rattle.formula_code.proofs.Totals.{leave_room, uses_changed, uses_same}
use Rattle.formula_code.proofs.laws.uses_add_up.Goals as goal

pub returns-clause-changed : goal.returns-clause-changed
returns-clause-changed c = uses_changed

pub returns-clause-same : goal.returns-clause-same
returns-clause-same c = uses_same

pub returns-clause-room : goal.returns-clause-room
returns-clause-room c = leave_room

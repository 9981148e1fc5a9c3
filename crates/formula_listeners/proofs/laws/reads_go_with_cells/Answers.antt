use Rattle.formula_listeners.proofs.Unchanged.{none_inside, still_outside}
use Rattle.formula_listeners.proofs.laws.reads_go_with_cells.Goals as goal

pub returns-clause-outside : goal.returns-clause-outside
returns-clause-outside c = still_outside

pub returns-clause-none : goal.returns-clause-none
returns-clause-none c = none_inside

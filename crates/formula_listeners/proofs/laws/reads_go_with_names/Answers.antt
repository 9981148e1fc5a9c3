use Rattle.formula_listeners.proofs.Unchanged.{still_named, still_unnamed}
use Rattle.formula_listeners.proofs.laws.reads_go_with_names.Goals as goal

pub returns-clause-named : goal.returns-clause-named
returns-clause-named c = still_named

pub returns-clause-unnamed : goal.returns-clause-unnamed
returns-clause-unnamed c = still_unnamed

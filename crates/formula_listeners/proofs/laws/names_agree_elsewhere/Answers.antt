use Rattle.formula_listeners.proofs.NameUsers.{agree_named, agree_unnamed}
use Rattle.formula_listeners.proofs.laws.names_agree_elsewhere.Goals as goal

pub returns-clause-named : goal.returns-clause-named
returns-clause-named c = agree_named

pub returns-clause-unnamed : goal.returns-clause-unnamed
returns-clause-unnamed c = agree_unnamed

use Rattle.ears.proofs.GoingOn.{goes_above, goes_below}
use Rattle.ears.proofs.laws.chains_go_on.Goals as goal

pub returns-clause-above : goal.returns-clause-above
returns-clause-above c = goes_above

pub returns-clause-below : goal.returns-clause-below
returns-clause-below c = goes_below

use Rattle.calc_watch.proofs.SameValues.{told_apart}
use Rattle.calc_watch.proofs.laws.values_are_told_apart.Goals as goal

pub returns : goal.returns
returns c = told_apart

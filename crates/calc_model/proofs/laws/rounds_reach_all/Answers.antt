use Rattle.calc_model.proofs.Reached.{reaches_at_all, reaches_indeed}
use Rattle.calc_model.proofs.laws.rounds_reach_all.Goals as goal

pub returns : goal.returns
returns c = record { all = reaches_at_all; only = reaches_indeed }

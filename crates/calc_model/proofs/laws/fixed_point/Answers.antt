use Rattle.calc_model.proofs.Shown.{shows_its_value, shows_its_circle}
use Rattle.calc_model.proofs.laws.fixed_point.Goals as goal

pub returns : goal.returns
returns c = record { value = shows_its_value; circle = shows_its_circle }

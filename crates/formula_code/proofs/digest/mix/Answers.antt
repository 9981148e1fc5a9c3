use Rattle.std.proofs.Common.{refl}
use Rattle.formula_code.specs.Digests.{mixed}
use Rattle.formula_code.proofs.digest.mix.Goals as goal

pub returns : goal.returns
unfolding mixed
returns c = refl

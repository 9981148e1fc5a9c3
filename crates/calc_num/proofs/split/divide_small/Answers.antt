use Rattle.std.proofs.Common.{◌^◌}
use Rattle.calc_num.proofs.Arithmetic.Products.{divided_in_steps, rest_in_steps}
use Rattle.calc_num.proofs.split.divide_small.Goals as goal

pub returns-clause-quotient : goal.returns-clause-quotient
returns-clause-quotient c = divided_in_steps c.args.size c.args.divisor (2 ^ 32) c.requires.divisor.0

pub returns-clause-rest : goal.returns-clause-rest
returns-clause-rest c = rest_in_steps c.args.size c.args.divisor (2 ^ 32)

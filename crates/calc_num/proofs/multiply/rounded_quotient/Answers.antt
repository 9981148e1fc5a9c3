use Rattle.std.proofs.Common.{◌^◌, arith}
use Rattle.calc_num.proofs.Arithmetic.Products.{rounded_reduced}
use Rattle.calc_num.proofs.multiply.rounded_quotient.Goals as goal

pub returns-then-b-eq0 : goal.returns-then-b-eq0
returns-then-b-eq0 c =
    omega (arith, rounded_reduced c.args.a c.args.b (10 ^ 5) (10 ^ 4) (omega arith) c.if-b-eq0.true)

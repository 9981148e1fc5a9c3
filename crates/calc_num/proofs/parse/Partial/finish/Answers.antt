use Rattle.std.proofs.Common.{[], ap, sym, ◌∙◌, arith}
use Rattle.calc_num.specs.Scaling.{worth}
use Rattle.calc_num.proofs.ReadNumbers.Scale.{worth-far}
use Rattle.calc_num.proofs.parse.Partial.finish.Goals as goal

pub returns-then-places-ge27 : goal.returns-then-places-ge27
returns-then-places-ge27 c =
    sym (ap (λ o. worth c.args.self.size o []) c.in-Some.is ∙ worth-far c.args.self.size c.in-Some.places (omega arith) c.if-places-ge27.true)

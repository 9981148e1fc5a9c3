use Rattle.std.proofs.Common.{refl, ap, ◌∷◌, []}
use Rattle.calc_model.specs.Lists.{number_of_scalar}
use Rattle.calc_model.specs.Parameters.{all_ok}
use Rattle.fn_args.proofs.tally.tally_scalar.Goals as goal

pub returns-in-Number : goal.returns-in-Number
returns-in-Number g c = (c.in-Number.number ∷ [], ap (λ value. all_ok (number_of_scalar value)) c.in-Number.is, c.take.ensures.taken, c.take.ensures.left)

pub returns-in-Blank : goal.returns-in-Blank
returns-in-Blank g c = ([], ap (λ value. all_ok (number_of_scalar value)) c.in-Blank.is, refl, g.met.T.Tally.room_behind c.args.taker.now 1)

use Rattle.std.proofs.Common.{refl, ap, ◌∷◌, []}
use Rattle.calc_model.specs.Lists.{number_in_cell}
use Rattle.calc_model.specs.Parameters.{all_ok}
use Rattle.calc_model.specs.ValueTexts.{lent}
use Rattle.fn_args.proofs.tally.tally_cell.Goals as goal

pub returns-in-Number : goal.returns-in-Number
returns-in-Number g c = (c.in-Number.number ∷ [], ap (λ seen. all_ok (number_in_cell (lent seen))) c.in-Number.is, c.take.ensures.taken, c.take.ensures.left)

pub returns-in-Words : goal.returns-in-Words
returns-in-Words g c = ([], ap (λ seen. all_ok (number_in_cell (lent seen))) c.in-Words.is, refl, g.met.T.Tally.room_behind c.args.taker.now 1)

pub returns-in-Blank : goal.returns-in-Blank
returns-in-Blank g c = ([], ap (λ seen. all_ok (number_in_cell (lent seen))) c.in-Blank.is, refl, g.met.T.Tally.room_behind c.args.taker.now 1)

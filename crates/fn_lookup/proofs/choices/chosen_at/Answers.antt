use Rattle.std.proofs.Common.{sym, arith, rules}
use Rattle.std.proofs.lemmas.List.{length-map}
use Rattle.calc_model.specs.Arguments.{meaning_of, meanings_of}
use Rattle.fn_lookup.proofs.Numbering.{chosen-at, chosen-past}
use Rattle.fn_lookup.proofs.choices.chosen_at.Goals as goal

pub returns-then-others-place : goal.returns-then-others-place
returns-then-others-place g c =
    let v = g.V.Values.values c.args.values.now in
    sym (chosen-past (meanings_of c.args.home v c.args.others.now) c.args.place (omega (arith, length-map c.args.others.now (meaning_of c.args.home v), c.if-others-place.true)))

pub returns : goal.returns
returns g c =
    let there = chosen-at c.args.home (g.V.Values.values c.args.values.now) c.args.others.now c.args.place c.index-others-place.result c.if-others-place.false c.index-others-place.is in
    search (rules, there)

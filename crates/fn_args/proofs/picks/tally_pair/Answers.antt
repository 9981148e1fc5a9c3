use Rattle.std.proofs.Common.{ap, length, subst, sym, ◌∙◌}
use Rattle.std.proofs.lemmas.List.{length-replicate}
use Rattle.calc_model.specs.UsedCells.{values_of}
use Rattle.calc_model.specs.declared.value.Value.TheVariants.{Blank}
use Rattle.fn_args.specs.Picks.{if_picked, picked_by}
use Rattle.fn_args.specs.Tallies.{IsTallied, numbers_in_cells}
use Rattle.fn_args.proofs.Picking.{all-picked}
use Rattle.fn_args.proofs.picks.tally_pair.Goals as goal

pub returns-in-Blank : goal.returns-in-Blank
returns-in-Blank g c =
    let test = g.C.Test.test c.args.test.now in
    let values = values_of c.args.pair.now.second in
    let size = sym (ap (λ p. length (values_of p)) c.in-Blank.is ∙ length-replicate c.in-Blank.count Blank) ∙ c.requires.same in
    let picked = ap (λ p. picked_by test (values_of p) values) c.in-Blank.is ∙ all-picked test Blank c.in-Blank.count values size ∙ ap (λ b. if_picked b values) (sym c.passes.ensures) in
    subst (λ xs. IsTallied g.T.Tally.step g.T.Tally.room (length values) c.args.taker.now (numbers_in_cells xs) c.tally_if.new.taker c.tally_if.result) (sym picked) c.tally_if.ensures

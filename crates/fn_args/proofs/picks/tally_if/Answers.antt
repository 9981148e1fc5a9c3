use Rattle.std.proofs.Common.{ap, length, refl, [], ◌∙◌}
use Rattle.calc_model.specs.Parameters.{all_ok}
use Rattle.calc_model.specs.UsedCells.{values_of}
use Rattle.fn_args.specs.Picks.{if_picked}
use Rattle.fn_args.specs.Tallies.{numbers_in_cells}
use Rattle.fn_args.proofs.Picking.{none-picked}
use Rattle.fn_args.proofs.picks.tally_if.Goals as goal

pub returns-else-picked : goal.returns-else-picked
returns-else-picked g c =
    let values = values_of c.args.piece.now in
    ([], ap (λ b. all_ok (numbers_in_cells (if_picked b values))) c.if-picked.false ∙ none-picked values, refl, g.met.T.Tally.room_behind c.args.taker.now (length values))

use Rattle.std.proofs.Common.{◌+◌, length, ap, sym, subst, refl, ◌∙◌, []}
use Rattle.std.proofs.lemmas.List.{length-map}
use Rattle.calc_model.specs.declared.value.Value.TheVariants.{Number}
use Rattle.calc_model.specs.Parameters.{all_ok}
use Rattle.calc_model.specs.UsedCells.{values_of}
use Rattle.calc_model.specs.ValueTexts.{lent}
use Rattle.fn_args.specs.Tallies.{IsTallied, numbers_in_cells}
use Rattle.fn_args.proofs.Tallying.{all_numbers, no_numbers, one_cell}
use Rattle.fn_args.proofs.tally.tally_piece.Goals as goal

pub tally_small-requires : goal.tally_small-requires
tally_small-requires g c =
    subst (g.T.Tally.room c.args.taker.now) (ap (λ p. length (values_of p)) c.in-Small.is ∙ length-map c.in-Small.items.now Number) c.requires

pub returns-in-Small : goal.returns-in-Small
returns-in-Small g c =
    let size = ap (λ p. length (values_of p)) c.in-Small.is ∙ length-map c.in-Small.items.now Number in (
      c.in-Small.items.now,
      ap (λ p. all_ok (numbers_in_cells (values_of p))) c.in-Small.is ∙ all_numbers c.in-Small.items.now,
      c.tally_small.ensures.taken,
      λ k r. c.tally_small.ensures.left k (subst (λ n. g.T.Tally.room c.args.taker.now (n + k)) size r),
    )

pub returns-in-Blank : goal.returns-in-Blank
returns-in-Blank g c =
    ([], ap (λ p. all_ok (numbers_in_cells (values_of p))) c.in-Blank.is ∙ no_numbers c.in-Blank.count, refl, g.met.T.Tally.room_behind c.args.taker.now (length (values_of c.args.piece.now)))

pub returns-in-One : goal.returns-in-One
returns-in-One g c =
    subst (λ p. IsTallied g.T.Tally.step g.T.Tally.room (length (values_of p)) c.args.taker.now (numbers_in_cells (values_of p)) c.tally_cell.new.taker c.tally_cell.result)
    (sym c.in-One.is)
    (subst (λ ns. IsTallied g.T.Tally.step g.T.Tally.room 1 c.args.taker.now ns c.tally_cell.new.taker c.tally_cell.result) (sym (one_cell (lent c.in-One.seen))) c.tally_cell.ensures)

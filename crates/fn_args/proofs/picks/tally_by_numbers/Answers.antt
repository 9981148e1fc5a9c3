use Rattle.std.proofs.Common.{◌+◌, ap, length, map, refl, subst, [], ◌∙◌}
use Rattle.std.proofs.lemmas.List.{length-map}
use Rattle.calc_model.specs.Parameters.{all_ok}
use Rattle.calc_model.specs.UsedCells.{values_of}
use Rattle.calc_model.specs.declared.value.Value.TheVariants.{Number}
use Rattle.fn_args.specs.Picks.{picked_by, where_passes}
use Rattle.fn_args.specs.Tallies.{numbers_in_cells}
use Rattle.fn_args.proofs.Picking.{blank-picked, numbers-picked}
use Rattle.fn_args.proofs.Tallying.{all_numbers}
use Rattle.fn_args.proofs.picks.tally_by_numbers.Goals as goal

pub returns-in-Small : goal.returns-in-Small
returns-in-Small g c =
    let test = g.C.Test.test c.args.test.now in
    let keys = c.args.keys.now in
    let items = c.in-Small.items.now in
    let size = ap (λ p. length (values_of p)) c.in-Small.is ∙ length-map items Number in (
      where_passes (λ n. test (Number n)) keys items,
      ap (λ p. all_ok (numbers_in_cells (picked_by test (map Number keys) (values_of p)))) c.in-Small.is
          ∙ ap (λ xs. all_ok (numbers_in_cells xs)) (numbers-picked test keys items) ∙ all_numbers (where_passes (λ n. test (Number n)) keys items),
      c.tally_where.ensures.taken,
      λ k r. c.tally_where.ensures.left k (subst (λ n. g.T.Tally.room c.args.taker.now (n + k)) size r),
    )

pub returns-in-Blank : goal.returns-in-Blank
returns-in-Blank g c =
    let test = g.C.Test.test c.args.test.now in
    let keys = map Number c.args.keys.now in (
      [],
      ap (λ p. all_ok (numbers_in_cells (picked_by test keys (values_of p)))) c.in-Blank.is ∙ blank-picked test keys c.in-Blank.count,
      refl,
      g.met.T.Tally.room_behind c.args.taker.now (length (values_of c.args.piece.now)),
    )

use Rattle.std.proofs.Common.{◌≡◌, ◌≤◌, ◌+◌, ◌-◌, length, subst, arith}
use Rattle.std.specs.List.{zip}
use Rattle.std.proofs.lemmas.Slice.Zip.{length-zip}
use Rattle.calc_model.specs.Meanings.{values_in}
use Rattle.fn_args.specs.Picks.{picked_by}
use Rattle.fn_args.specs.Tallies.{MOST_IN_AREA, numbers_in_cells}
use Rattle.fn_args.proofs.Tallying.{few_cells, widened}
use Rattle.fn_args.proofs.picks.tally_picked.Goals as goal

pub tally_pairs-requires : goal.tally_pairs-requires
tally_pairs-requires g c =
    let v = g.V.Values.values c.args.values.now in
    let size = length (zip (values_in v c.args.tested) (values_in v c.args.summed)) in
    let e : MOST_IN_AREA ≡ MOST_IN_AREA - size + size =
    omega (arith, few_cells v c.args.tested c.lies_in_sheet.ensures, length-zip (values_in v c.args.tested) (values_in v c.args.summed)) in
    g.met.T.Tally.room_behind c.args.taker.now (MOST_IN_AREA - size) size (subst (g.T.Tally.room c.args.taker.now) e c.requires)

pub returns : goal.returns
returns g c =
    let v = g.V.Values.values c.args.values.now in
    let few : length (zip (values_in v c.args.tested) (values_in v c.args.summed)) ≤ MOST_IN_AREA =
    omega (arith, few_cells v c.args.tested c.lies_in_sheet.ensures, length-zip (values_in v c.args.tested) (values_in v c.args.summed)) in
    widened g.T.Tally.step g.T.Tally.room g.met.T.Tally.room_behind _ MOST_IN_AREA few c.args.taker.now
    (numbers_in_cells (picked_by (g.C.Test.test c.args.test.now) (values_in v c.args.tested) (values_in v c.args.summed))) c.tally_pairs.new.taker c.tally_pairs.result c.tally_pairs.ensures

use Rattle.std.proofs.Common.{◌≡◌, ◌+◌, ◌-◌, length, subst, sym, arith}
use Rattle.calc_model.specs.Lists.{number_of_scalar}
use Rattle.calc_model.specs.Meanings.{values_in}
use Rattle.fn_args.specs.Tallies.{IsTallied, MOST_IN_AREA, numbers_in_cells, numbers_of_arg}
use Rattle.fn_args.proofs.Tallying.{few_cells, widened}
use Rattle.fn_args.proofs.tally.tally_arg.Goals as goal

pub tally_scalar-requires : goal.tally_scalar-requires
tally_scalar-requires g c =
    g.met.T.Tally.room_behind c.args.taker.now (MOST_IN_AREA - 1) 1 c.requires

pub tally_area-requires : goal.tally_area-requires
tally_area-requires g c =
    let size = length (values_in (g.V.Values.values c.args.values.now) c.in-Area.area) in
    let e : MOST_IN_AREA ≡ MOST_IN_AREA - size + size = omega (arith, few_cells (g.V.Values.values c.args.values.now) c.in-Area.area c.lies_in_sheet.ensures) in
    g.met.T.Tally.room_behind c.args.taker.now (MOST_IN_AREA - size) size (subst (g.T.Tally.room c.args.taker.now) e c.requires)

pub returns-in-Scalar : goal.returns-in-Scalar
returns-in-Scalar g c =
    let v = g.V.Values.values c.args.values.now in
    subst (λ x. IsTallied g.T.Tally.step g.T.Tally.room MOST_IN_AREA c.args.taker.now (numbers_of_arg v x) c.tally_scalar.new.taker c.tally_scalar.result) (sym c.in-Scalar.is)
    (widened g.T.Tally.step g.T.Tally.room g.met.T.Tally.room_behind 1 MOST_IN_AREA (omega arith) c.args.taker.now (number_of_scalar c.in-Scalar.value) c.tally_scalar.new.taker c.tally_scalar.result c.tally_scalar.ensures)

pub returns-in-Area : goal.returns-in-Area
returns-in-Area g c =
    let v = g.V.Values.values c.args.values.now in
    subst (λ x. IsTallied g.T.Tally.step g.T.Tally.room MOST_IN_AREA c.args.taker.now (numbers_of_arg v x) c.tally_area.new.taker c.tally_area.result) (sym c.in-Area.is)
    (widened g.T.Tally.step g.T.Tally.room g.met.T.Tally.room_behind _ MOST_IN_AREA (few_cells v c.in-Area.area c.lies_in_sheet.ensures) c.args.taker.now (numbers_in_cells (values_in v c.in-Area.area)) c.tally_area.new.taker c.tally_area.result c.tally_area.ensures)

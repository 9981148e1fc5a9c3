use Rattle.std.proofs.Common.{not, sym, ap}
use Rattle.std.proofs.lemmas.Option.{get_or_from_slice_get, slice_get_within}
use Rattle.dirty_spread.proofs.Beside.{absent_has, held_has}
use Rattle.dirty_spread.proofs.circles.lacks.Goals as goal

pub returns-in-Some : goal.returns-in-Some
returns-in-Some c =
    let cells = c.args.cells.now in
    let cell = c.args.cell in
    sym (ap not (held_has cells cell (c.in-Some.field-0, slice_get_within cells c.in-Some.field-0 cell c.in-Some.ensures.at, get_or_from_slice_get cells c.in-Some.field-0 cell cell c.in-Some.ensures.at)))

pub returns-in-None : goal.returns-in-None
returns-in-None c = sym (ap not (absent_has c.args.cells.now c.args.cell c.in-None.ensures.absent))

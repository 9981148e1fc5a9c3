use Rattle.formula_reader.proofs.references.corner_in_front.Goals as goal
use Rattle.formula_reader.proofs.Corners.{corner_is}

pub returns-clause-spelled : goal.returns-clause-spelled
returns-clause-spelled c =
    corner_is c.args.bytes.now c.in_ok-col.rest.now c.in_ok-row.rest.now c.in_ok-col.col c.in_ok-row.row c.in_ok-col.ensures c.in_ok-row.ensures

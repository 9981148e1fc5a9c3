use Rattle.formula_reader.proofs.references.plain_corners.Goals as goal
use Rattle.formula_reader.proofs.Corners.{cell_found, cells_found}

pub returns-in-Some : goal.returns-in-Some
returns-in-Some c = record {
  read = cell_found c.args.bytes.now c.in_ok-behind_byte.field-0.now c.in_ok-first.rest.now c.in-Some.rest.now c.in_ok-first.first c.in_ok-behind_byte.ensures c.in_ok-first.ensures.spelled c.in-Some.ensures;
  inside = c.in_ok-first.ensures.inside;
}

pub returns : goal.returns
returns c = record {
  read = cells_found c.args.bytes.now c.in_ok-behind_byte.field-0.now c.in_ok-first.rest.now c.in_ok-behind_byte-2.field-0.now c.in_ok-rest.rest.now c.in_ok-last.rest.now c.in_ok-behind_byte-3.field-0.now c.in_ok-first.first c.in_ok-last.last c.in_ok-behind_byte.ensures c.in_ok-first.ensures.spelled c.in_ok-behind_byte-2.ensures c.in_ok-rest.ensures c.in_ok-last.ensures.spelled c.in_ok-behind_byte-3.ensures;
  inside = (c.in_ok-first.ensures.inside, c.in_ok-last.ensures.inside);
}

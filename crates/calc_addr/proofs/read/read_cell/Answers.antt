use Rattle.std.proofs.Common.{sym, ◌∙◌}
use Rattle.calc_addr.proofs.Spelling.Joined.{first_is, sheet_part_inside}
use Rattle.calc_addr.proofs.read.read_cell.Goals as goal

pub invariant_of-result : goal.invariant_of-result
invariant_of-result c =
    let sheet = first_is c.read_front-sheet.result.0 c.read_address.result c.in-Is.sheet _ c.in-Is.ensures in
    let inside = sheet_part_inside c.args.text.now c.in-Is.sheet (sym c.read_front-sheet.ensures.sheet ∙ sheet) in
    let cell = c.cell.invariant in
    record { sheet_in = inside; col_from = cell.col_from; col_to = cell.col_to; row_from = cell.row_from; row_to = cell.row_to }

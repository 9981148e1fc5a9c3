use Rattle.std.proofs.Common.{sym, ◌∙◌}
use Rattle.calc_addr.proofs.Spelling.Joined.{first_is, sheet_part_inside}
use Rattle.calc_addr.proofs.read.read_area.Goals as goal

pub invariant_of-result : goal.invariant_of-result
invariant_of-result c =
    let sheet = first_is c.read_front-sheet.result.0 c.read_corners.result c.in-Is.sheet _ c.in-Is.ensures in
    let inside = sheet_part_inside c.args.text.now c.in-Is.sheet (sym c.read_front-sheet.ensures.sheet ∙ sheet) in
    let area = c.area.invariant in
    record {
      sheet_in = inside;
      cols_from = area.cols_from;
      cols_in_order = area.cols_in_order;
      cols_to = area.cols_to;
      rows_from = area.rows_from;
      rows_in_order = area.rows_in_order;
      rows_to = area.rows_to;
    }

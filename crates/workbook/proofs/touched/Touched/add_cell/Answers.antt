use Rattle.std.proofs.Common.{◌||◌, ap, ◌∙◌}
use Rattle.std.specs.List.{list_any}
use Rattle.std.specs.Ordering.{eq_by_cmp}
use Rattle.calc_addr.specs.Places.{covers, place_cmp}
use Rattle.workbook.specs.Touched.{contains_cell, lies_in}
use Rattle.workbook.proofs.Sets.{one_more_cell}
use Rattle.workbook.proofs.touched.Touched.add_cell.Goals as goal

pub returns-clause-touched : goal.returns-clause-touched
unfolding lies_in
returns-clause-touched c = λ q.
    let parts = c.self.inside in
    let in_areas = list_any (λ area. covers area q) parts.areas.items in
    ap (λ has. parts.all || has || in_areas) (c.in_ok-added.ensures.updates.0 q)
    ∙ one_more_cell parts.all (contains_cell parts.cells.keys q) in_areas (eq_by_cmp place_cmp c.args.cell q)
    ∙ ap (λ before. lies_in before q || eq_by_cmp place_cmp c.args.cell q) c.self.view_is

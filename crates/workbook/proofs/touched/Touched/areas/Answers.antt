use Rattle.std.proofs.Common.{◌≡◌, ◌||◌, Bool, true, false, refl, sym, ap, ◌∙◌}
use Rattle.std.specs.List.{list_any}
use Rattle.std.specs.Ordering.{eq_by_cmp}
use Rattle.calc_addr.specs.Places.{covers, place_cmp}
use Rattle.workbook.specs.Touched.{contains_cell, lies_in}
use Rattle.workbook.proofs.Tests.{or_moved, or_swapped, pushed_area}
use Rattle.workbook.proofs.touched.Touched.areas.Goals as goal

or_false : (b : Bool) → (b || false) ≡ b
or_false true = refl
or_false false = refl

pub loop-cell-preserved : goal.loop-cell-preserved
loop-cell-preserved c = λ q.
    let so_far = c.loop-cell.areas.items in
    ap (λ b. b || contains_cell c.next.new.self q) (pushed_area so_far c.push.new.self.items c.area_of.result c.in-Some.cell.now q c.in_ok-push.ensures.items c.area_of.ensures)
    ∙ or_moved (list_any (λ area. covers area q) so_far) (eq_by_cmp place_cmp q c.in-Some.cell.now) (contains_cell c.next.new.self q)
    ∙ ap (λ cells. list_any (λ area. covers area q) so_far || contains_cell cells q) (sym c.in-Some.ensures.steps)
    ∙ c.loop-cell.invariant q

pub returns : goal.returns
unfolding lies_in
returns c = λ q.
    let none : contains_cell c.loop-cell.cell-iterator q ≡ false = ap (λ cells. contains_cell cells q) c.in-None.ensures.steps.0 in
    sym (or_false (list_any (λ area. covers area q) c.loop-cell.areas.items)) ∙ ap (λ b. list_any (λ area. covers area q) c.loop-cell.areas.items || b) (sym none)
    ∙ c.loop-cell.invariant q
    ∙ or_swapped (list_any (λ area. covers area q) c.args.self.now.areas) (contains_cell c.args.self.now.cells q)
    ∙ sym (ap (λ b. b || contains_cell c.args.self.now.cells q || list_any (λ area. covers area q) c.args.self.now.areas) c.requires)

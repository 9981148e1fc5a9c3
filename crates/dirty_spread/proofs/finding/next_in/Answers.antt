use Rattle.std.proofs.Common.{◌≡◌, Some, slice_get, ap, subst, ◌∙◌}
use Rattle.calc_addr.specs.Places.{IsRectangle, Rectangle, corner}
use Rattle.dirty_spread.proofs.Found.{first_found}
use Rattle.dirty_spread.proofs.finding.next_in.Goals as goal

pub returns-in-Some-clause-next : goal.returns-in-Some-clause-next
returns-in-Some-clause-next c =
    let a : Rectangle = c.args.area.now in
    let rectangle : IsRectangle a = subst IsRectangle c.area.view_is c.area.invariant in
    let is : slice_get c.args.cells.now c.in-Some.place ≡ Some (corner a) = c.in-Some.ensures.at ∙ ap (λ r. Some (corner r)) c.area.view_is in
    first_found c.args.cells.now c.requires.in_order a rectangle c.args.from c.in-Some.place is

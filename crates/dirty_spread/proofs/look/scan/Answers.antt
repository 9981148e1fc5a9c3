use Rattle.std.proofs.Common.{◌≡◌, Some, slice_get, sym, ap, subst, ◌∙◌}
use Rattle.calc_addr.specs.Places.{IsRectangle, Place, Rectangle, corner}
use Rattle.dirty_spread.specs.Finding.{IsNextIn}
use Rattle.dirty_spread.proofs.Found.{one_found}
use Rattle.dirty_spread.proofs.Scans.{scan_back}
use Rattle.dirty_spread.proofs.look.scan.Goals as goal
use Rattle.dirty_spread.proofs.look.scan.Goals.{then-is_row+then-from-last, else-is_row}

pub returns-after-is_row-clause-scan : goal.returns-after-is_row-clause-scan
returns-after-is_row-clause-scan c =
    let cells = c.args.cells.now in
    let a : Rectangle = c.args.area.now in
    let rectangle : IsRectangle a = subst IsRectangle c.area.view_is c.area.invariant in
    let column : a.first_col ≡ a.last_col = sym (ap (λ (r : Rectangle). r.first_col) c.area.view_is) ∙ c.if-area.false ∙ ap (λ (r : Rectangle). r.last_col) c.area.view_is in
    let next : IsNextIn cells a c.args.from c.if-is_row.first =
    elim c.if-is_row.branch [
      | then-is_row+then-from-last w ↦
          let row : a.first_row ≡ a.last_row = sym (ap (λ (r : Rectangle). r.first_row) c.area.view_is) ∙ w.if-is_row.true ∙ ap (λ (r : Rectangle). r.last_row) c.area.view_is in
          let end_of : Rectangle → Place = λ r. record { sheet = r.sheet; col = r.last_col; row = r.last_row } in
          let at_corner : end_of a ≡ corner a = ap (λ x. record { sheet = a.sheet; col = x; row = a.last_row }) (sym column) ∙ ap (λ x. record { sheet = a.sheet; col = a.first_col; row = x }) (sym row) in
          let is : slice_get cells c.in-Some.last ≡ Some (corner a) = c.in-Some.ensures.at ∙ ap (λ r. Some (end_of r)) c.area.view_is ∙ ap Some at_corner in
          subst (λ n. IsNextIn cells a c.args.from n) (sym w.first-is) (one_found cells c.requires.in_order a rectangle column row c.args.from c.in-Some.last w.if-from-last.true is)
      | else-is_row w ↦ subst (λ n. IsNextIn cells a c.args.from n) (sym w.first-is) w.next_in-first.ensures.next
    ] in
    scan_back cells c.args.levels.now a c.args.from c.args.least c.if-is_row.first c.scan_column.result.0 c.scan_column.result.1 next c.scan_column.ensures.scan

use Rattle.std.proofs.Common.{◌≡◌, ◌+◌, ◌-◌, ◌++◌, sym, ap, subst, ◌∙◌, arith}
use Rattle.std.proofs.Math.ListN.{set}
use Rattle.calc_addr.specs.Places.{Rows, IsRows}
use Rattle.cell_runs.specs.CellLists.{IsList, cells_of}
use Rattle.cell_runs.proofs.Indexed.{Longer, longer}
use Rattle.cell_runs.proofs.cells.CellRuns.lengthen.Goals as goal

pub overflow_add-self : goal.overflow_add-self
overflow_add-self c =
    let rs = c.self.inside.runs.items in
    let x = c.index-last.result.now in
    let r = c.args.run in
    let y : Rows = record { sheet = c.last.inside.sheet; col = c.last.inside.col; first = c.last.inside.first; last = c.run.inside.last } in
    let made : y ≡ record x { last = r.last } =
    ap (λ v. record { sheet = v.sheet; col = v.col; first = v.first; last = c.run.inside.last }) c.last.view_is ∙ ap (λ v. record x { last = v.last }) c.run.view_is in
    let on = c.goes_on.ensures.0 c.if-not-goes_on.false in
    let hx : IsRows x = subst IsRows c.last.view_is c.last.invariant in
    let hr : IsRows r = subst IsRows c.run.view_is c.run.invariant in
    let hy : IsRows y = subst IsRows (sym made) (record {
      sheet_in = hx.sheet_in;
      col_from = hx.col_from;
      col_to = hx.col_to;
      from = hx.from;
      in_order = omega (arith, on.2, hx.in_order, hr.in_order);
      to = hr.to;
    }) in
    let long : Longer rs c.self.inside.places.items c.len-count_before.result y r c.self.inside.len =
    longer rs c.self.inside.places.items c.len-count_before.result x y r c.self.inside.len c.self.invariant (omega arith) c.if-count_before-eq0.false c.index-last.ensures made on.0 on.1 on.2 hx hr hy in
    omega (arith, long.short, c.count.ensures)

pub invariant_of-self : goal.invariant_of-self
invariant_of-self c =
    let rs = c.self.inside.runs.items in
    let x = c.index-last.result.now in
    let r = c.args.run in
    let y : Rows = record { sheet = c.last.inside.sheet; col = c.last.inside.col; first = c.last.inside.first; last = c.run.inside.last } in
    let made : y ≡ record x { last = r.last } =
    ap (λ v. record { sheet = v.sheet; col = v.col; first = v.first; last = c.run.inside.last }) c.last.view_is ∙ ap (λ v. record x { last = v.last }) c.run.view_is in
    let on = c.goes_on.ensures.0 c.if-not-goes_on.false in
    let hx : IsRows x = subst IsRows c.last.view_is c.last.invariant in
    let hr : IsRows r = subst IsRows c.run.view_is c.run.invariant in
    let hy : IsRows y = subst IsRows (sym made) (record {
      sheet_in = hx.sheet_in;
      col_from = hx.col_from;
      col_to = hx.col_to;
      from = hx.from;
      in_order = omega (arith, on.2, hx.in_order, hr.in_order);
      to = hr.to;
    }) in
    let long : Longer rs c.self.inside.places.items c.len-count_before.result y r c.self.inside.len =
    longer rs c.self.inside.places.items c.len-count_before.result x y r c.self.inside.len c.self.invariant (omega arith) c.if-count_before-eq0.false c.index-last.ensures made on.0 on.1 on.2 hx hr hy in
    subst (λ n. IsList (set rs (c.len-count_before.result - 1) y) c.self.inside.places.items (c.self.inside.len + n)) (sym c.count.ensures) long.list

pub returns-clause-yes : goal.returns-clause-yes
returns-clause-yes c =
    let rs = c.self.inside.runs.items in
    let x = c.index-last.result.now in
    let r = c.args.run in
    let y : Rows = record { sheet = c.last.inside.sheet; col = c.last.inside.col; first = c.last.inside.first; last = c.run.inside.last } in
    let made : y ≡ record x { last = r.last } =
    ap (λ v. record { sheet = v.sheet; col = v.col; first = v.first; last = c.run.inside.last }) c.last.view_is ∙ ap (λ v. record x { last = v.last }) c.run.view_is in
    let on = c.goes_on.ensures.0 c.if-not-goes_on.false in
    let hx : IsRows x = subst IsRows c.last.view_is c.last.invariant in
    let hr : IsRows r = subst IsRows c.run.view_is c.run.invariant in
    let hy : IsRows y = subst IsRows (sym made) (record {
      sheet_in = hx.sheet_in;
      col_from = hx.col_from;
      col_to = hx.col_to;
      from = hx.from;
      in_order = omega (arith, on.2, hx.in_order, hr.in_order);
      to = hr.to;
    }) in
    let long : Longer rs c.self.inside.places.items c.len-count_before.result y r c.self.inside.len =
    longer rs c.self.inside.places.items c.len-count_before.result x y r c.self.inside.len c.self.invariant (omega arith) c.if-count_before-eq0.false c.index-last.ensures made on.0 on.1 on.2 hx hr hy in
    λ yes. long.cells ∙ ap (λ v. v ++ cells_of r) c.self.view_is

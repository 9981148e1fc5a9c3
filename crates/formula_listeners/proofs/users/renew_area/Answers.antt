use Rattle.std.proofs.Common.{◌≤◌, ◌+◌, cond, sym, ap, subst, ◌∙◌, arith}
use Rattle.calc_addr.specs.Places.{Rectangle}
use Rattle.listener_hub.specs.Hubs.{areas_read}
use Rattle.registration_slab.specs.Slab.{is_in}
use Rattle.formula_code.specs.Coded.{coded_areas}
use Rattle.formula_groups.specs.GroupRows.{columns_of}
use Rattle.formula_listeners.proofs.AreaCells.{before_end, column, in_area, not_before, one_more}
use Rattle.formula_listeners.proofs.users.renew_area.Invariants.{AreRenewed}
use Rattle.formula_listeners.proofs.users.renew_area.Goals as goal

pub loop-col-preserved : goal.loop-col-preserved
loop-col-preserved g c =
    let names = g.N.NameTable.entries c.args.names.now in
    let columns = columns_of c.args.groups.now in
    let codes = c.args.codes.now in
    let area : Rectangle = record { sheet = c.area.inside.sheet; first_col = c.area.inside.first_col; last_col = c.area.inside.last_col; first_row = c.area.inside.first_row; last_row = c.area.inside.last_row } in
    let held : AreRenewed codes c.args.name.now names c.args.groups.now area c.loop-col.col c.args.hub.now c.loop-col.hub =
    subst (λ (a : Rectangle). AreRenewed codes c.args.name.now names c.args.groups.now a c.loop-col.col c.args.hub.now c.loop-col.hub) (sym c.area.view_is) c.loop-col.invariant in
    let from : area.first_col ≤ c.loop-col.col = omega (arith, c.loop-col.auto.col) in
    let to : c.loop-col.col ≤ area.last_col = omega (arith, c.loop-col-test.true) in
    subst (λ (a : Rectangle). AreRenewed codes c.args.name.now names c.args.groups.now a (c.loop-col.col + 1) c.args.hub.now c.renew_rows.new.hub) c.area.view_is
    (record {
      ready = c.in_ok-renew_rows.ensures.ready;
      areas = λ before agree holds q.
          c.in_ok-renew_rows.ensures.areas before agree
          (λ p h.
          held.areas before agree holds p
          ∙ ap (λ b. cond b (coded_areas codes names columns p) (areas_read c.args.hub.now p)) (not_before area c.loop-col.col from to p h)
          ∙ holds p (in_area area c.loop-col.col from to p h)) q
          ∙ ap (λ o. cond (is_in (column area c.loop-col.col from to) q) (coded_areas codes names columns q) o) (held.areas before agree holds q)
          ∙ one_more area c.loop-col.col from to q (coded_areas codes names columns q) (areas_read c.args.hub.now q);
    })

pub returns-clause-areas : goal.returns-clause-areas
returns-clause-areas g c before agree holds q =
    c.loop-col.invariant.areas before agree holds q
    ∙ ap (λ b. cond b (coded_areas c.args.codes.now (g.N.NameTable.entries c.args.names.now) (columns_of c.args.groups.now) q) (areas_read c.args.hub.now q))
    (before_end c.args.area c.loop-col.col q (omega (arith, c.loop-col-test.false, ap (λ (a : Rectangle). a.last_col) c.area.view_is)))

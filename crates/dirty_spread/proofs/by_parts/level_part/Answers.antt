use Rattle.std.proofs.Common.{◌≤◌, ◌+◌, ◌-◌, sym, ap, subst, arith}
use Rattle.std.specs.List.{slice_range}
use Rattle.calc_addr.specs.Places.{Rows}
use Rattle.calc_model.specs.declared.dependents.Part.{Part}
use Rattle.calc_model.specs.Listeners.{ReadAreas}
use Rattle.dirty_spread.specs.ByParts.{AreRowsOf}
use Rattle.dirty_spread.proofs.RowLevels.{part_rows}
use Rattle.dirty_spread.proofs.by_parts.level_part.Goals as goal

pub level_rows-requires-clause-rows : goal.level_rows-requires-clause-rows
level_rows-requires-clause-rows g c =
    let read : ReadAreas = g.H.Dependents.areas c.args.hub.now in
    let in_order : c.args.part.run.first ≤ c.args.part.run.last = omega (arith, c.part.invariant.in_order, ap (λ (pt : Part). pt.run.first) c.part.view_is, ap (λ (pt : Part). pt.run.last) c.part.view_is) in
    subst (λ (pt : Part). AreRowsOf read c.args.stale.now (c.args.place + (pt.run.first - c.run.inside.first)) (pt.run.last - pt.run.first + 1) (slice_range c.args.ears.now pt.from pt.to)) (sym c.part.view_is)
    (subst (λ (r : Rows). AreRowsOf read c.args.stale.now (c.args.place + (c.args.part.run.first - r.first)) (c.args.part.run.last - c.args.part.run.first + 1) (slice_range c.args.ears.now c.args.part.from c.args.part.to)) (sym c.run.view_is)
    (part_rows read c.args.stale.now c.args.run c.args.ears.now c.args.part c.args.place c.requires.heard in_order c.requires.rows))

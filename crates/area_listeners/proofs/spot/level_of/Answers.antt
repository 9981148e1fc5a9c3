use Rattle.std.proofs.Common.{◌<◌, ◌-◌, sym, subst, ◌∙◌, arith}
use Rattle.area_listeners.proofs.Levels.{goes_on, stops}
use Rattle.area_listeners.proofs.spot.level_of.Goals as goal

pub loop-level-preserved : goal.loop-level-preserved
loop-level-preserved c = (
  sym (goes_on c.loop-level.level c.args.rows (omega (arith, c.loop-level-test.true)) (subst (λ n. n < c.args.rows) c.height.ensures.rows (omega (arith, c.if-height-rows.true))))
      ∙ c.loop-level.invariant.0,
  omega (arith, c.loop-level-test.true),
)

pub returns-else-height-rows-clause-level : goal.returns-else-height-rows-clause-level
returns-else-height-rows-clause-level c =
    sym (stops (10 - c.loop-level.level) c.loop-level.level c.args.rows (omega (arith, c.if-height-rows.false, c.height.ensures.rows))) ∙ c.loop-level.invariant.0

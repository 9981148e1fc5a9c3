use Rattle.std.proofs.Common.{◌<◌, length, arith}
use Rattle.calc_model.specs.Touched.{CellSet}
use Rattle.dirty_spread.specs.Waves.{has}
use Rattle.dirty_spread.proofs.Looks.{look_next, look_open}
use Rattle.dirty_spread.proofs.look.look.Goals as goal

pub returns-then-next-levels : goal.returns-then-next-levels
returns-then-next-levels c =
    let circular : CellSet = has c.args.circles.now in
    let within : c.scan-next.result.0 < length c.args.cells.now = omega (arith, c.if-next-levels.true, c.requires.size) in
    look_open c.args.cells.now circular c.args.areas.now c.args.levels.now c.loop-cursor.cursor c.loop-cursor.invariant
    c.index-areas-cursor.result c.loop-cursor-test.true c.index-areas-cursor.is c.scan-next.result.0 c.scan-next.result.1 c.scan-next.ensures.scan within (c.scan-next.ensures.stopped within)

pub loop-cursor-preserved : goal.loop-cursor-preserved
loop-cursor-preserved c =
    let circular : CellSet = has c.args.circles.now in
    look_next c.args.cells.now circular c.args.areas.now c.args.levels.now c.loop-cursor.cursor c.loop-cursor.invariant
    c.index-areas-cursor.result c.loop-cursor-test.true c.index-areas-cursor.is c.scan-next.result.0 c.scan-next.result.1 c.scan-next.ensures.scan (omega (arith, c.if-next-levels.false, c.requires.size))
    (λ q covered beside circle. c.has_circle.ensures.no c.if-has_circle.false q (record { covered = covered; beside = beside; circle = circle }))

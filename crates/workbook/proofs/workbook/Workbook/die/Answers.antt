use Rattle.std.proofs.Common.{refl}
use Rattle.workbook.proofs.Staleness.{all_stale}
use Rattle.workbook.proofs.workbook.Workbook.die.Goals as goal

pub returns-clause-dead : goal.returns-clause-dead
returns-clause-dead c = record { dead = refl; stale = all_stale _ c.all.ensures.cells }

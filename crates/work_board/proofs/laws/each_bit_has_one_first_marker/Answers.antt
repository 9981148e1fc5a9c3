use Rattle.std.proofs.Common.{arith}
use Rattle.work_board.specs.BoardMachine.{opened}
use Rattle.work_board.proofs.Schedules.{single, stays}
use Rattle.work_board.proofs.laws.each_bit_has_one_first_marker.Goals as goal

pub returns-clause-once : goal.returns-clause-once
returns-clause-once c units workers events = single units events (opened workers) (λ bit. omega arith)

pub returns-clause-stays : goal.returns-clause-stays
returns-clause-stays c = stays

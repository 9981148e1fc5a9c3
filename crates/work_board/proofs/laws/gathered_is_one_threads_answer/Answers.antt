use Rattle.std.proofs.Common.{ap, ◌∙◌}
use Rattle.work_board.specs.Counts.{once_below}
use Rattle.work_board.specs.BoardMachine.{all_drawn}
use Rattle.work_board.specs.Laws.{run}
use Rattle.work_board.proofs.Gathering.{gathers}
use Rattle.work_board.proofs.Schedules.{kept, times-flat}
use Rattle.work_board.proofs.laws.gathered_is_one_threads_answer.Goals as goal

pub returns-clause-numbers : goal.returns-clause-numbers
returns-clause-numbers g c = gathers

pub returns-clause-run : goal.returns-clause-run
returns-clause-run g c blank f units workers events all =
    let m = run units workers events in
    gathers blank f units (all_drawn m) (λ x. times-flat x m.workers ∙ (kept units workers events).once x ∙ ap (once_below x) all)

use Rattle.std.proofs.Common.{ap, sym, ◌∙◌}
use Rattle.work_board.specs.Counts.{once_below}
use Rattle.work_board.specs.Laws.{run}
use Rattle.work_board.proofs.Schedules.{kept, whole, times-flat}
use Rattle.work_board.proofs.laws.each_unit_is_drawn_once.Goals as goal

pub returns-clause-once : goal.returns-clause-once
returns-clause-once c units workers events x =
    times-flat x (run units workers events).workers ∙ (kept units workers events).once x

pub returns-clause-below : goal.returns-clause-below
returns-clause-below c units workers events = (kept units workers events).below

pub returns-clause-whole : goal.returns-clause-whole
returns-clause-whole c units workers events = whole units (run units workers events) (kept units workers events)

pub returns-clause-alike : goal.returns-clause-alike
returns-clause-alike c units workers events view end same x =
    end.once x
    ∙ ap (once_below x) (sym same)
    ∙ sym (times-flat x (run units workers events).workers ∙ (kept units workers events).once x)

use Rattle.std.proofs.Common.{ap, ◌∙◌}
use Rattle.workbook.specs.Workbook.{State}
use Rattle.workbook.proofs.Recalculating.{stale_counted}
use Rattle.workbook.proofs.workbook.Workbook.stale_count.Goals as goal

pub returns-then-is_spent : goal.returns-then-is_spent
returns-then-is_spent c =
    stale_counted c.args.self.now c.parts-parts.result.now c.self.inside.touched c.count_stale.result
    (c.parts-parts.ensures ∙ ap (λ (s : State). s.book) c.self.view_is) (ap (λ (s : State). s.touched) c.self.view_is) c.count_stale.ensures

pub returns : goal.returns
returns c =
    stale_counted c.args.self.now c.parts-parts.result.now c.self.inside.touched c.count_stale-2.result
    (c.parts-parts.ensures ∙ ap (λ (s : State). s.book) c.self.view_is) (ap (λ (s : State). s.touched) c.self.view_is) c.count_stale-2.ensures

use Rattle.std.proofs.Common.{◌≡◌, ◌∷◌, ◌++◌, [], List, sym, ap, subst, ◌∙◌}
use Rattle.std.proofs.Math.ListN.{set}
use Rattle.dirty_spread.specs.declared.look.Frame.{Frame}
use Rattle.dirty_spread.specs.Levels.{IsOrdering}
use Rattle.dirty_spread.specs.Waves.{Problem, problem_of}
use Rattle.dirty_spread.proofs.Orders.{begin, begin_kept, begin_place}
use Rattle.dirty_spread.proofs.leveling.level_from.Goals as goal

pub loop-frame-init : goal.loop-frame-init
loop-frame-init g c =
    let p : Problem = problem_of (g.H.Dependents.areas c.args.hub.now) c.args.stale.now c.args.circles.now in
    let pushed : c.push.new.self.items ≡ record { place = c.args.place; cursor = record { area = 0; next = 0; greatest = 2 } } ∷ [] =
    c.in_ok-push.ensures.items ∙ ap (λ (f : Frame). c.args.path.now.items ++ f ∷ []) c.frame_at.ensures ∙ ap (λ (fs : List Frame). fs ++ record { place = c.args.place; cursor = record { area = 0; next = 0; greatest = 2 } } ∷ []) c.requires.empty in
    record {
      ordering = subst (λ (fs : List Frame). IsOrdering p (set c.args.levels.now c.args.place 1) fs) (sym pushed) (begin p c.args.levels.now c.requires.ordering c.args.place c.requires.within c.requires.new);
      kept = begin_kept p c.args.levels.now c.requires.ordering c.args.place c.requires.within c.requires.new;
      place = begin_place p c.args.levels.now c.requires.ordering c.args.place c.requires.within c.requires.new;
    }

use Rattle.std.proofs.Common.{subst}
use Rattle.std.specs.List.{All}
use Rattle.dirty_spread.specs.Levels.{IsCircular}
use Rattle.dirty_spread.proofs.Closings.{closed_path}
use Rattle.dirty_spread.proofs.leveling.close_path.Goals as goal

pub returns-clause-closed : goal.returns-clause-closed
returns-clause-closed c =
    (closed_path c.args.path.now.items c.args.frame.now c.args.levels.now c.close.new.levels c.requires c.close.ensures.closed
    (subst (λ fs. All (IsCircular c.close.new.levels) fs) c.deref.ensures.value c.close.ensures.all)).0

pub returns-clause-all : goal.returns-clause-all
returns-clause-all c =
    (closed_path c.args.path.now.items c.args.frame.now c.args.levels.now c.close.new.levels c.requires c.close.ensures.closed
    (subst (λ fs. All (IsCircular c.close.new.levels) fs) c.deref.ensures.value c.close.ensures.all)).1

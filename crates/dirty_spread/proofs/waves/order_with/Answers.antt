use Rattle.dirty_spread.specs.Waves.{Problem, problem_of}
use Rattle.dirty_spread.proofs.Endings.{are_left, are_waves, gapless}
use Rattle.dirty_spread.proofs.waves.order_with.Goals as goal

pub lists-requires-clause-gapless : goal.lists-requires-clause-gapless
lists-requires-clause-gapless g c =
    let p : Problem = problem_of (g.H.Dependents.areas c.args.hub.now) c.args.stale.now c.args.circles.now in
    gapless p c.find_levels.new.levels c.in_ok-find_levels.ensures

pub returns-clause-waves : goal.returns-clause-waves
returns-clause-waves g c =
    let p : Problem = problem_of (g.H.Dependents.areas c.args.hub.now) c.args.stale.now c.args.circles.now in
    are_waves p c.find_levels.new.levels c.in_ok-find_levels.ensures c.in_ok-waves.waves c.in_ok-waves.ensures

pub returns-clause-circular : goal.returns-clause-circular
returns-clause-circular g c =
    let p : Problem = problem_of (g.H.Dependents.areas c.args.hub.now) c.args.stale.now c.args.circles.now in
    are_left p c.find_levels.new.levels c.in_ok-find_levels.ensures c.in_ok-circular.circular c.in_ok-circular.ensures

use Rattle.std.proofs.Common.{◌≤◌, subst, sym, arith}
use Rattle.area_listeners.specs.Spots.{height}
use Rattle.area_listeners.proofs.Levels.{height_top}
use Rattle.area_listeners.proofs.spot.height.Goals as goal

pub pow-requires : goal.pow-requires
pow-requires c = let top : height c.args.level ≤ 1048576 = height_top c.args.level c.requires in omega (arith, top)

pub returns-clause-within : goal.returns-clause-within
returns-clause-within c = subst (λ n. n ≤ 1048576) (sym c.pow.ensures) (height_top c.args.level c.requires)

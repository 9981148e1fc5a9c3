use Rattle.std.proofs.Common.{◌≡◌, true, subst}
use Rattle.calc_addr.specs.Places.{covers}
use Rattle.calc_addr.proofs.Walking.Walks.{places_from-corner}
use Rattle.calc_addr.proofs.cell.Area.cells.Goals as goal

pub returns : goal.returns
returns c =
    rw c.corner.ensures.first (places_from-corner c.args.self (subst (λ p. covers c.args.self p ≡ true) c.corner.ensures.first c.corner.ensures.in_area))

use Rattle.std.proofs.Common.{◌≡◌, ◌∷◌, rules}
use Rattle.calc_addr.specs.Places.{places_from}
use Rattle.calc_addr.proofs.Walking.Walks.{walk-step}
use Rattle.calc_addr.proofs.walk.AreaCellsIterator.next.Goals as goal

pub returns-clause-goes : goal.returns-clause-goes
returns-clause-goes c =
    let step : c.args.self.now ≡ c.in_ok-cell.cell ∷ places_from c.self.inside.area c.after-self-inside.result =
    walk-step c.self.inside.area c.self.inside.next c.after-self-inside.result c.in_ok-cell.cell c.args.self.now c.self.view_is c.in_ok-cell.was c.self.invariant c.after-self-inside.ensures.next in
    rw step (search rules)

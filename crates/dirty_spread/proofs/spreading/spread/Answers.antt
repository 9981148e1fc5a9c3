use Rattle.calc_model.specs.Listeners.{ReadAreas}
use Rattle.run_unions.specs.Unions.{AreUnion}
use Rattle.dirty_spread.specs.Spreading.{AreStale}
use Rattle.dirty_spread.proofs.Cells.{if_ok}
use Rattle.dirty_spread.proofs.spreading.spread.Goals as goal

pub returns : goal.returns
returns g c =
    let read : ReadAreas = g.H.Dependents.areas c.args.hub.now in
    if_ok {P = AreUnion c.in_ok-found.found.items} {Q = AreStale read c.args.touched.now} c.union_of_runs.result
    (λ cells union. record {
      in_order = union.in_order;
      exact = λ q. (
        λ h. (c.in_ok-found.ensures q).0 ((union.exact q).0 h),
        λ stale. (union.exact q).1 ((c.in_ok-found.ensures q).1 stale),
      );
    })
    c.union_of_runs.ensures

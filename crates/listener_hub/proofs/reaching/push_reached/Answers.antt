use Rattle.std.proofs.Common.{◌++◌, List, ap, ◌∙◌}
use Rattle.calc_addr.specs.Places.{Rows}
use Rattle.listener_hub.proofs.reaching.push_reached.Goals as goal

pub returns-clause-ok : goal.returns-clause-ok
returns-clause-ok c = (
  c.in_ok-runs.runs.items,
  c.in_ok-extend_from_slice.ensures.items ∙ ap (λ (xs : List Rows). c.args.out.now.items ++ xs) c.deref.ensures.value,
  c.in_ok-runs.ensures,
)

use Rattle.std.proofs.Common.{take}
use Rattle.std.specs.List.{list_any}
use Rattle.listener_hub.specs.Hits.{is_hit}
use Rattle.listener_hub.specs.Reaching.{GetStretch}
use Rattle.listener_hub.proofs.reaching.push_stretches.Given as goal

abbrev pub invariant-loop-at : goal.invariant-loop-at
invariant-loop-at l = GetStretch l.run l.ears l.area (λ q. list_any (is_hit l.run l.area q) (take l.at l.ears)) l.fn.out.items l.out.items

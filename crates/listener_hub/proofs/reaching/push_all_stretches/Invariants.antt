use Rattle.std.proofs.Common.{take}
use Rattle.listener_hub.specs.Hits.{any_hit}
use Rattle.listener_hub.specs.Reaching.{GetReached}
use Rattle.registration_slab.specs.Slab.{areas_of}
use Rattle.listener_hub.proofs.reaching.push_all_stretches.Given as goal

abbrev pub invariant-loop-place : goal.invariant-loop-place
invariant-loop-place l = GetReached (areas_of l.registrations) l.area (λ q. any_hit l.registrations l.area q (take l.place-index l.places)) l.fn.out.items l.out.items

use Rattle.std.proofs.Common.{take}
use Rattle.listener_hub.specs.Parting.{IsParting}
use Rattle.listener_hub.proofs.parting.push_parts_at.Given as goal

abbrev pub invariant-loop-place : goal.invariant-loop-place
invariant-loop-place l = IsParting l.registrations l.run (take l.place-index l.places) l.fn.parts.items l.parts.items l.fn.ears.items l.ears.items l.next

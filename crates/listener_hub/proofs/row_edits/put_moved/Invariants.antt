use Rattle.std.proofs.Common.{◌≤◌, ◌+◌, ◌-◌}
use Rattle.registration_slab.specs.Changes.{IsSlabOf}
use Rattle.listener_hub.specs.Moves.{IsPartMoved}
use Rattle.registration_slab.specs.Slab.{areas_of}
use Rattle.listener_hub.proofs.row_edits.put_moved.Given as goal

abbrev pub invariant-loop-first : goal.invariant-loop-first
invariant-loop-first l = IsSlabOf l.fresh × (l.registration.run.first ≤ l.first) × (l.first ≤ l.registration.run.last + 1)
    × IsPartMoved l.edit l.registration l.registration.run.first l.first (areas_of l.fn.fresh.registrations.items) (areas_of l.fresh.registrations.items)

abbrev pub decreases-loop-first : goal.decreases-loop-first
decreases-loop-first l = l.last + 1 - l.first

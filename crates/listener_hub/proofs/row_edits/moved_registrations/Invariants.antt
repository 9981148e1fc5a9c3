use Rattle.std.proofs.Common.{take}
use Rattle.registration_slab.specs.Changes.{IsSlabOf}
use Rattle.listener_hub.specs.Moves.{IsMoved}
use Rattle.registration_slab.specs.Slab.{areas_of}
use Rattle.listener_hub.proofs.row_edits.moved_registrations.Given as goal

abbrev pub invariant-loop-place : goal.invariant-loop-place
invariant-loop-place l = IsSlabOf l.fresh × IsMoved l.edit (areas_of (take l.place l.registrations)) (areas_of l.fresh.registrations.items)

use Rattle.std.proofs.Common.{◌≡◌, false, take}
use Rattle.std.specs.List.{list_any}
use Rattle.registration_slab.specs.Slab.{at, has_cell}
use Rattle.registration_slab.proofs.registration.place_of.Given as goal

abbrev pub invariant-loop-place : goal.invariant-loop-place
invariant-loop-place l = list_any (λ i. has_cell (at l.registrations i) l.cell) (take l.place-index l.places) ≡ false

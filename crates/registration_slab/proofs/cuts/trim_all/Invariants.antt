use Rattle.registration_slab.proofs.Trimming.{AreTrimmed}
use Rattle.registration_slab.proofs.cuts.trim_all.Given as goal

abbrev pub invariant-loop-place : goal.invariant-loop-place
invariant-loop-place l = AreTrimmed l.fn.slab l.slab l.cut l.places l.place-index

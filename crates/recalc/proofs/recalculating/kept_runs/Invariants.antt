use Rattle.std.proofs.Common.{◌≡◌, take}
use Rattle.calc_addr.specs.Places.{Place}
use Rattle.dirty_spread.specs.Marking.{is_in_any}
use Rattle.recalc.specs.Recalculation.{kept}
use Rattle.recalc.proofs.recalculating.kept_runs.Given as goal

abbrev pub invariant-loop-place : goal.invariant-loop-place
invariant-loop-place l = (q : Place) → is_in_any q l.runs.items ≡ kept l.parts l.stale (take l.place l.cells) q

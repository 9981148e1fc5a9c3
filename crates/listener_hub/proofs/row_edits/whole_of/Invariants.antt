use Rattle.std.proofs.Common.{◌≤◌, take}
use Rattle.std.specs.List.{All}
use Rattle.ears.specs.RowEdits.{GoTogether, RowsGoTogether}
use Rattle.registration_slab.specs.Slab.{steps_of}
use Rattle.listener_hub.proofs.row_edits.whole_of.Given as goal

abbrev pub invariant-loop-ear : goal.invariant-loop-ear
invariant-loop-ear l = (l.whole ≤ steps_of l.run) × RowsGoTogether l.edit l.run l.whole × All (λ e. GoTogether l.edit e l.whole) (take l.ear-index l.ears)

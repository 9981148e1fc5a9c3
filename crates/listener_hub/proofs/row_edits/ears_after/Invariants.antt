use Rattle.std.proofs.Common.{◌≡◌, take}
use Rattle.std.specs.List.{filter_map}
use Rattle.ears.specs.RowEdits.{ear_after}
use Rattle.listener_hub.proofs.row_edits.ears_after.Given as goal

abbrev pub invariant-loop-ear : goal.invariant-loop-ear
invariant-loop-ear l = l.moved.items ≡ filter_map (ear_after l.edit) (take l.ear-index l.ears)

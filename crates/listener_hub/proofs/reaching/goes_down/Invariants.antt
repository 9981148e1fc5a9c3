use Rattle.std.proofs.Common.{◌≡◌, false, take}
use Rattle.std.specs.List.{list_any}
use Rattle.ears.specs.Chains.{reads_above}
use Rattle.listener_hub.proofs.reaching.goes_down.Given as goal

abbrev pub invariant-loop-ear : goal.invariant-loop-ear
invariant-loop-ear l = list_any (reads_above l.run) (take l.ear-index l.ears) ≡ false

use Rattle.std.proofs.Common.{◌≡◌, false, take}
use Rattle.std.specs.List.{list_any}
use Rattle.ears.specs.Chains.{reads_below}
use Rattle.listener_hub.proofs.reaching.goes_up.Given as goal

abbrev pub invariant-loop-ear : goal.invariant-loop-ear
invariant-loop-ear l = list_any (reads_below l.run) (take l.ear-index l.ears) ≡ false

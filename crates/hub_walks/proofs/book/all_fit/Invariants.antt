use Rattle.std.proofs.Common.{take}
use Rattle.std.specs.List.{All}
use Rattle.ears.specs.RunAreas.{LieInSheet}
use Rattle.hub_walks.proofs.book.all_fit.Given as goal

abbrev pub invariant-loop-ear : goal.invariant-loop-ear
invariant-loop-ear l = All (LieInSheet l.steps) (take l.ear-index l.ears)

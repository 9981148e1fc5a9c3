use Rattle.std.proofs.Common.{take}
use Rattle.std.specs.List.{All}
use Rattle.calc_addr.specs.Places.{IsRectangle}
use Rattle.formula_listeners.proofs.runs.lie_in_sheet.Given as goal

abbrev pub invariant-loop-ear : goal.invariant-loop-ear
invariant-loop-ear l = All (λ ear. IsRectangle ear.area) (take l.ear-index l.ears)

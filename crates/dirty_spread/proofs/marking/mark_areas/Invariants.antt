use Rattle.std.proofs.Common.{take}
use Rattle.dirty_spread.specs.Marking.{IsFormulaInAny, Marks}
use Rattle.dirty_spread.proofs.marking.mark_areas.Given as goal

abbrev pub invariant-loop-area : goal.invariant-loop-area
invariant-loop-area l =
    Marks l.formulas (IsFormulaInAny l.formulas (take l.area-index l.areas)) (IsFormulaInAny l.formulas l.areas) l.initial.marks l.marks l.initial.found.items l.found.items

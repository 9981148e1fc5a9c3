use Rattle.std.proofs.Common.{take}
use Rattle.cell_columns.specs.Freed.{formulas_among, uses_among}
use Rattle.cell_columns.specs.Taken.{AreFreed}
use Rattle.cell_columns.proofs.slots.release.Given as goal

-- the uses by the groups so far are gone
abbrev pub invariant-loop-group : goal.invariant-loop-group
invariant-loop-group l =
    AreFreed l.fn.codes l.codes (λ id. uses_among id l.fn.first l.fn.last (take l.group-index l.fn.groups)) (formulas_among l.fn.first l.fn.last (take l.group-index l.fn.groups))

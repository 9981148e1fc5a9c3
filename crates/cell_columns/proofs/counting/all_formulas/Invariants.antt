use Rattle.std.proofs.Common.{◌≡◌, take}
use Rattle.cell_columns.specs.Lent.{slots_of}
use Rattle.cell_columns.specs.Uses.{formulas_in}
use Rattle.cell_columns.proofs.counting.all_formulas.Given as goal

abbrev pub invariant-loop-number : goal.invariant-loop-number
invariant-loop-number l = l.count ≡ formulas_in (take l.number (slots_of l.fn.columns))

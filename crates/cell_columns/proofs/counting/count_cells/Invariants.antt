use Rattle.std.proofs.Common.{◌≡◌, length}
use Rattle.formula_code.specs.Codes.{Codes}
use Rattle.cell_columns.specs.Cells.{cells_of}
use Rattle.cell_columns.specs.Lent.{slots_of}
use Rattle.cell_columns.specs.Walks.{within_rows}
use Rattle.cell_columns.proofs.counting.count_cells.Given as goal

abbrev pub invariant-loop-number : goal.invariant-loop-number
invariant-loop-number l = (codes : Codes) → l.count ≡ length (within_rows l.fn.from l.number l.fn.first l.fn.last (cells_of codes (slots_of l.fn.columns)))

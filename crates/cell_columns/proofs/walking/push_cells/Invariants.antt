use Rattle.std.proofs.Common.{◌≡◌, ◌++◌}
use Rattle.formula_code.specs.Codes.{Codes}
use Rattle.cell_columns.specs.Cells.{cells_of}
use Rattle.cell_columns.specs.Lent.{slots_of}
use Rattle.cell_columns.specs.Walks.{places_of, within_rows}
use Rattle.cell_columns.proofs.walking.push_cells.Given as goal

abbrev pub invariant-loop-number : goal.invariant-loop-number
invariant-loop-number l = (codes : Codes) → l.out.items ≡ l.fn.out.items ++ places_of (within_rows l.fn.from l.number l.fn.first l.fn.last (cells_of codes (slots_of l.fn.columns)))

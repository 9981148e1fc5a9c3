use Rattle.std.proofs.Common.{◌≡◌, take}
use Rattle.kept_codes.specs.FormulaCells.{all_coded}
use Rattle.formula_groups.specs.GroupRows.{columns_of}
use Rattle.kept_codes.proofs.grouped.grouped_cells.Given as goal

abbrev pub invariant-loop-number : goal.invariant-loop-number
invariant-loop-number l = l.cells ≡ all_coded 0 (take l.number (columns_of l.fn.groups))

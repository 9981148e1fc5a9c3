use Rattle.std.proofs.Common.{ap, ◌∙◌}
use Rattle.cell_columns.proofs.Nothing.{empty_cells, empty_columns_are}
use Rattle.cell_columns.specs.Cells.{cells_of}
use Rattle.cell_columns.proofs.columns.CellColumns.new.Goals as goal

pub invariant_of-result : goal.invariant_of-result
invariant_of-result c = empty_columns_are c.new.result c.in_ok-columns.columns.items c.in_ok-groups.groups.items c.new.ensures c.in_ok-columns.ensures c.in_ok-groups.ensures

pub returns : goal.returns
returns c = ap (cells_of c.new.result) c.in_ok-columns.ensures ∙ empty_cells c.new.result

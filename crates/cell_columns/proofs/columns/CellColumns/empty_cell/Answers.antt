use Rattle.std.proofs.Common.{arith}
use Rattle.std.specs.BTreeMap.{is_at}
use Rattle.calc_addr.specs.Places.{place_cmp}
use Rattle.calc_model.proofs.EntriesKept.{length-removed}
use Rattle.cell_columns.proofs.columns.CellColumns.empty_cell.Goals as goal

pub set-requires : goal.set-requires
set-requires c = record { room = omega (arith, length-removed (is_at (place_cmp c.args.cell)) c.args.self.now, c.are_book.ensures.cells_in_limit) }

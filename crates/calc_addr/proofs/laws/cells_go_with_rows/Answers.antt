use Rattle.calc_addr.proofs.Shifting.ShiftedAreas.{covers_after_deletion, covers_after_insertion, lost_by_deletion, lost_by_insertion}
use Rattle.calc_addr.proofs.laws.cells_go_with_rows.Goals as goal

pub returns : goal.returns
returns c = record { inserted = covers_after_insertion; pushed_out = lost_by_insertion; deleted = covers_after_deletion; gone = lost_by_deletion }

use Rattle.std.proofs.Common.{ap}
use Rattle.std.specs.Prelude.{option_map}
use Rattle.calc_addr.specs.Shifts.{on_area}
use Rattle.calc_addr.proofs.Shifting.ShiftLaws.{all_rows_stay_deleted, all_rows_stay_inserted, has_all_rows-reference_back, reference_after_deletion-insertion}
use Rattle.calc_addr.proofs.laws.deletion_undoes_insertion.Goals as goal

pub returns : goal.returns
returns c = record {
  whole_inserted = λ place count r all. ap (option_map (on_area r)) (all_rows_stay_inserted place count r.area all);
  whole_deleted = λ place count r all. ap (option_map (on_area r)) (all_rows_stay_deleted place count r.area all);
  undone = λ place count r s e uncut.
      (has_all_rows-reference_back place count r s e, reference_after_deletion-insertion place count r s e uncut);
}

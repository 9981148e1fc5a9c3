use Rattle.std.proofs.Common.{◌≡◌}
use Rattle.std.specs.List.{list_any}
use Rattle.calc_model.specs.Listeners.{listed}
use Rattle.listener_hub.specs.Hubs.{areas_read}
use Rattle.workbook.specs.Readers.{changes_area}
use Rattle.workbook.specs.Touched.{lies_in}
use Rattle.workbook.proofs.Tests.{Walked}
use Rattle.workbook.proofs.row_edits.touch_readers.Given as goal

abbrev pub invariant-loop-place : goal.invariant-loop-place
invariant-loop-place l = record {
  cells : Walked l.formulas l.place (λ q. list_any (changes_area l.change) (listed (areas_read l.hub q))) (lies_in l.initial.touched) (lies_in l.touched);
  names : l.touched.names ≡ l.initial.touched.names;
}

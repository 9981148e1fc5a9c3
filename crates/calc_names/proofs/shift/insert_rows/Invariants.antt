-- the entries before the place are changed, and those from there on as they were
use Rattle.std.proofs.Common.{◌≡◌, ◌++◌, take, drop}
use Rattle.calc_addr.specs.Shifts.{area_after_insertion}
use Rattle.calc_names.specs.Kept.{kept_on_sheet}
use Rattle.calc_names.proofs.shift.insert_rows.Given as goal

abbrev pub invariant-loop-entry : goal.invariant-loop-entry
invariant-loop-entry l =
    l.entries ≡ kept_on_sheet l.sheet (area_after_insertion l.place l.count) (take l.entry-index l.fn.entries) ++ drop l.entry-index l.fn.entries

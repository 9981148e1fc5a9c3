-- Which areas inserted or deleted rows change.
use Rattle.std.specs.Prelude.{Bool, false}
use Rattle.calc_addr.specs.Places.{Rectangle}
use Rattle.calc_model.specs.declared.change.Change.{Change}
use Rattle.calc_model.specs.declared.change.Change.TheVariants.{Inserted, Deleted}
use Rattle.calc_model.specs.RowEdits.{is_changed_by_deletion, is_changed_by_insertion}

-- whether the change is one of rows that changes or deletes the area
abbrev pub changes_area : Change → Rectangle → Bool
changes_area (Inserted sheet place count) area = is_changed_by_insertion sheet place count area
changes_area (Deleted sheet place count) area = is_changed_by_deletion sheet place count area
changes_area _ area = false

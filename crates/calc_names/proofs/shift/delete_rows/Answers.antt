-- the entry at the place is changed where it stands
use Rattle.calc_addr.specs.Shifts.{area_after_deletion}
use Rattle.calc_names.proofs.Changed.{changed_more}
use Rattle.calc_names.specs.Kept.{answer_on_sheet}
use Rattle.calc_names.proofs.shift.delete_rows.Goals as goal

pub loop-entry-preserved : goal.loop-entry-preserved
loop-entry-preserved c =
    changed_more (answer_on_sheet c.args.sheet (area_after_deletion c.args.place c.args.count)) c.args.entries.now c.loop-entry.entries c.loop-entry.entry-index c.entry-item.result _ c.loop-entry-test.true c.loop-entry.auto.entries c.loop-entry.invariant c.after_deletion-entry.ensures

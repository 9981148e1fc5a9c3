-- The entries that are written back are those of the changed slice.
use Rattle.std.proofs.Common.{ap, ◌∙◌, arith}
use Rattle.std.proofs.lemmas.List.{with_items_is}
use Rattle.calc_addr.specs.Shifts.{area_after_insertion}
use Rattle.calc_model.specs.NamedAreas.{names_after_insertion}
use Rattle.calc_names.specs.Kept.{kept_on_sheet}
use Rattle.calc_names.proofs.Edited.{kept_inserted, seen_inserted}
use Rattle.calc_names.proofs.names.Names.insert_rows.Goals as goal

pub invariant_of-self : goal.invariant_of-self
invariant_of-self c =
    let written = with_items_is c.self.inside.entries c.insert_rows.new.entries (omega arith) ∙ c.insert_rows.ensures in
    let shown = c.deref_mut.ensures.value in
    kept_inserted c.args.sheet c.args.place c.args.count c.self.inside.entries.items _ (written ∙ ap (kept_on_sheet c.args.sheet (area_after_insertion c.args.place c.args.count)) shown) c.self.invariant

pub returns : goal.returns
returns c =
    let written = with_items_is c.self.inside.entries c.insert_rows.new.entries (omega arith) ∙ c.insert_rows.ensures in
    let shown = c.deref_mut.ensures.value in
    seen_inserted c.args.sheet c.args.place c.args.count c.self.inside.entries.items _ (written ∙ ap (kept_on_sheet c.args.sheet (area_after_insertion c.args.place c.args.count)) shown)
    ∙ ap (names_after_insertion c.args.sheet c.args.place c.args.count) c.self.view_is

use Rattle.std.proofs.Common.{◌-◌, None, sym, ap, subst, ◌∙◌}
use Rattle.std.proofs.lemmas.Result.{on_ok_weaker}
use Rattle.calc_addr.specs.declared.cell.TheConstants.{LAST_ROW}
use Rattle.run_tables.specs.Rows.{rows_inserted}
use Rattle.formula_groups.proofs.Kept.{IsKept, Edits, cut-left, insert-left, either}
use Rattle.formula_groups.proofs.column.GroupColumn.insert_rows.Goals as goal

-- the table without its last rows is kept
pub edit-requires-2-clause-table : goal.edit-requires-2-clause-table
edit-requires-2-clause-table c =
    let cuts = subst (λ v. Edits v c.edit.new.groups.items (LAST_ROW - c.args.count) LAST_ROW 0 None) c.reserve.ensures.items c.in_ok-edit.ensures.ok in
    cut-left c.self.inside.groups.items c.edit.new.groups.items c.args.place c.args.count c.requires c.self.invariant cuts

pub invariant_of-self-2 : goal.invariant_of-self-2
invariant_of-self-2 c =
    let table = c.self.inside.groups.items in
    let cuts = subst (λ v. Edits v c.edit.new.groups.items (LAST_ROW - c.args.count) LAST_ROW 0 None) c.reserve.ensures.items c.in_ok-edit.ensures.ok in
    either c.edit-2.result c.edit-2.ensures.ok c.edit-2.ensures.err
    (λ edits. (insert-left table c.edit.new.groups.items c.edit-2.new.groups.items c.args.place c.args.count c.requires c.self.invariant cuts edits).kept)
    (λ same. subst IsKept (sym same) (cut-left table c.edit.new.groups.items c.args.place c.args.count c.requires c.self.invariant cuts))

pub returns-clause-ok : goal.returns-clause-ok
returns-clause-ok c =
    let table = c.self.inside.groups.items in
    let cuts = subst (λ v. Edits v c.edit.new.groups.items (LAST_ROW - c.args.count) LAST_ROW 0 None) c.reserve.ensures.items c.in_ok-edit.ensures.ok in
    on_ok_weaker c.edit-2.result
    (λ edits. (insert-left table c.edit.new.groups.items c.edit-2.new.groups.items c.args.place c.args.count c.requires c.self.invariant cuts edits).codes ∙ ap (λ v. rows_inserted (c.args.place - 1) c.args.count None v.entries) c.self.view_is)
    c.edit-2.ensures.ok

use Rattle.std.proofs.Common.{◌-◌, None, sym, ap, subst, ◌∙◌}
use Rattle.run_tables.specs.Rows.{rows_erased}
use Rattle.std.proofs.lemmas.Result.{on_ok_weaker}
use Rattle.formula_groups.proofs.Kept.{IsKept, erase-left, either}
use Rattle.formula_groups.proofs.column.GroupColumn.erase_rows.Goals as goal

pub invariant_of-self : goal.invariant_of-self
invariant_of-self c =
    either c.edit.result c.edit.ensures.ok c.edit.ensures.err
    (λ edits. (erase-left c.self.inside.groups.items c.edit.new.groups.items c.args.place c.args.count c.requires c.self.invariant edits).kept)
    (λ same. subst IsKept (sym same) c.self.invariant)

pub returns-clause-ok : goal.returns-clause-ok
returns-clause-ok c =
    on_ok_weaker c.edit.result
    (λ edits. (erase-left c.self.inside.groups.items c.edit.new.groups.items c.args.place c.args.count c.requires c.self.invariant edits).codes ∙ ap (λ v. rows_erased (c.args.place - 1) c.args.count None v.entries) c.self.view_is)
    c.edit.ensures.ok

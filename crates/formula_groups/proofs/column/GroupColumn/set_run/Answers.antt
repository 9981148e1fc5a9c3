use Rattle.std.proofs.Common.{◌+◌, ◌-◌, Some, sym, ap, subst, ◌∙◌}
use Rattle.run_tables.specs.Rows.{rows_set}
use Rattle.std.proofs.lemmas.Result.{on_ok_weaker}
use Rattle.formula_groups.proofs.Kept.{IsKept, set-left, either}
use Rattle.formula_groups.proofs.column.GroupColumn.set_run.Goals as goal

pub invariant_of-self : goal.invariant_of-self
invariant_of-self c =
    either c.edit.result c.edit.ensures.ok c.edit.ensures.err
    (λ edits. (set-left c.self.inside.groups.items c.edit.new.groups.items (Some c.args.id) c.args.first c.args.last c.requires c.self.invariant edits).kept)
    (λ same. subst IsKept (sym same) c.self.invariant)

pub returns-clause-ok : goal.returns-clause-ok
returns-clause-ok c =
    on_ok_weaker c.edit.result
    (λ edits. (set-left c.self.inside.groups.items c.edit.new.groups.items (Some c.args.id) c.args.first c.args.last c.requires c.self.invariant edits).codes ∙ ap (λ v. rows_set (c.args.first - 1) (c.args.last + 1 - c.args.first) (Some c.args.id) v.entries) c.self.view_is)
    c.edit.ensures.ok

use Rattle.std.proofs.Common.{◌-◌, ◌==◌, Some, sym, ap, subst, ◌∙◌, slice_get, map}
use Rattle.std.proofs.lemmas.Bool.Decides.{Decides-eqb}
use Rattle.calc_addr.specs.declared.cell.TheConstants.{LAST_ROW}
use Rattle.run_tables.specs.Runs.{Rises, entry}
use Rattle.run_tables.proofs.RunLists.{runs-rise}
use Rattle.run_tables.proofs.Entries.{entries-row}
use Rattle.formula_groups.specs.Groups.{codes_of, group_run}
use Rattle.formula_groups.proofs.Kept.{runs-of-table}
use Rattle.formula_groups.proofs.column.GroupColumn.group_at.Goals as goal

pub piece_at-requires : goal.piece_at-requires
piece_at-requires c =
    let table = c.self.inside.groups.items in
    subst (λ v. Rises 1 (map group_run v)) (sym c.as_slice.ensures.value)
    (subst (Rises 1) (sym (runs-of-table table (codes_of table) c.self.invariant)) (runs-rise (λ k l. k == l) Decides-eqb 1 (codes_of table)))

pub returns-clause-code : goal.returns-clause-code
returns-clause-code c =
    let table = c.self.inside.groups.items in
    ap (λ v. slice_get v.entries (c.args.row - 1)) (sym c.self.view_is)
    ∙ entries-row LAST_ROW c.args.row (map group_run table) c.requires.from c.requires.to
    ∙ ap (λ v. Some (entry c.args.row (map group_run v))) (sym c.as_slice.ensures.value) ∙ ap Some (sym c.piece_at.ensures.key)

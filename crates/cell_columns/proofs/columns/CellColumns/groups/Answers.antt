use Rattle.std.proofs.Common.{◌≡◌, ◌∙◌, ◌<◌, List, [], length, map, ap, sym, subst, arith}
use Rattle.std.specs.Prelude.{slice_index_or}
use Rattle.calc_addr.specs.declared.cell.TheConstants.{LAST_ROW}
use Rattle.formula_groups.specs.declared.group.Group.{Group}
use Rattle.calc_model.specs.CellEdits.{CellEntries}
use Rattle.formula_groups.specs.GroupRows.{GroupRows}
use Rattle.formula_groups.specs.Groups.{groups_of}
use Rattle.cell_columns.specs.Cells.{cells_only, column_at}
use Rattle.cell_columns.specs.ColumnRuns.{AllLie, groups_in, rows_of_group, rows_of_run}
use Rattle.cell_columns.specs.Lent.{slots_of}
use Rattle.cell_columns.specs.Uses.{code_in, codes_in}
use Rattle.cell_columns.proofs.Downwards.{column_of, full, groups_down, groups_lie, seen_at}
use Rattle.cell_columns.proofs.Groups.{codes_at}
use Rattle.cell_columns.proofs.Maps.{length_map}
use Rattle.cell_columns.proofs.columns.CellColumns.groups.Goals as goal

-- the groups are those of the column's slots
are_groups : (c : goal.After-groups) → c.groups.result.now ≡ groups_of (codes_in (column_at (slots_of c.self.inside.columns.items) (column_of c.args.sheet c.args.col)))
are_groups c =
    let inv = c.self.invariant in
    let n = c.number_of.result in
    let groups = c.self.inside.groups.items in
    let columns = slots_of c.self.inside.columns.items in
    let among : n < length groups = omega (arith, c.number_of.ensures.among, inv.sheets.all_columns, length_map codes_in columns, ap length inv.grouped, length_map (λ (g : GroupRows). g.entries) groups) in
    c.groups.ensures
    ∙ ap groups_of (
    seen_at (λ (g : GroupRows). g.entries) groups n c.index.result.now [] c.index.ensures among
    ∙ ap (λ rows. slice_index_or rows n []) inv.grouped
    ∙ codes_at columns n
    )
    ∙ ap (λ k. groups_of (codes_in (column_at columns k))) c.number_of.ensures.number

pub returns-clause-groups : goal.returns-clause-groups
returns-clause-groups c =
    let Right : CellEntries → Type 0 = λ cells. map (rows_of_group c.args.sheet c.args.col) c.groups.result.now ≡ map (rows_of_run c.args.sheet c.args.col) (groups_in (cells_only cells) c.args.sheet c.args.col) in
    subst Right c.self.view_is (
    ap (map (rows_of_group c.args.sheet c.args.col)) (are_groups c)
    ∙ groups_down c.self.inside.table (slots_of c.self.inside.columns.items) c.self.invariant.sheets c.args.sheet c.args.col c.requires c.are_apart.ensures.apart
    )

pub returns-clause-rows : goal.returns-clause-rows
returns-clause-rows c =
    let columns = slots_of c.self.inside.columns.items in
    let rows = codes_in (column_at columns (column_of c.args.sheet c.args.col)) in
    let all : length rows ≡ LAST_ROW = length_map code_in (column_at columns (column_of c.args.sheet c.args.col)) ∙ full c.self.inside.table columns c.self.invariant.sheets c.args.sheet c.args.col c.requires in
    subst (λ (gs : List Group). AllLie (map (rows_of_group c.args.sheet c.args.col) gs)) (sym (are_groups c)) (groups_lie c.args.sheet c.args.col c.requires rows all)

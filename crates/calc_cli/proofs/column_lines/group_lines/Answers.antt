use Rattle.std.proofs.Common.{◌≡◌, ◌++◌, ℕ, List, map, refl, subst, sym, ap, ◌∙◌}
use Rattle.std.specs.List.{flat_map}
use Rattle.formula_groups.specs.declared.group.Group.{Group}
use Rattle.calc_addr.specs.Places.{IsRows}
use Rattle.cell_columns.specs.ColumnRuns.{rows_of_group}
use Rattle.calc_cli.specs.ColumnLines.{group_line}
use Rattle.calc_cli.proofs.ColumnNumbers.{lies_at, put_line}
use Rattle.calc_cli.proofs.column_lines.group_lines.Goals as goal

pub push_group-requires : goal.push_group-requires
push_group-requires c =
    let items = c.groups-group-items.result.now in
    subst (λ (g : Group). IsRows (rows_of_group c.args.sheet c.args.col g)) (sym c.group-item.is)
    (lies_at (rows_of_group c.args.sheet c.args.col) items c.loop-group.group-index c.group-item.result c.groups-group-items.ensures.rows c.loop-group-test.true)

pub loop-group-preserved : goal.loop-group-preserved
loop-group-preserved c =
    let items = c.groups-group-items.result.now in
    let lines : List Group → List ℕ = λ groups. flat_map group_line (map (rows_of_group c.args.sheet c.args.col) groups) in
    let line : Group → List ℕ = λ g. group_line (rows_of_group c.args.sheet c.args.col g) in
    put_line lines line (λ g groups. refl) items c.loop-group.group-index c.group-item.result c.loop-group.text.items c.push_group.new.text.items (lines items) c.loop-group-test.true
    (c.in_ok-push_group.ensures ∙ ap (λ g. c.loop-group.text.items ++ line g) c.group-item.is)
    c.loop-group.invariant

use Rattle.std.proofs.Common.{◌≡◌, ◌++◌, ℕ, List, drop, map}
use Rattle.std.specs.List.{flat_map}
use Rattle.formula_groups.specs.declared.group.Group.{Group}
use Rattle.calc_cli.specs.ColumnLines.{group_line}
use Rattle.cell_columns.specs.ColumnRuns.{rows_of_group}
use Rattle.calc_cli.proofs.column_lines.group_lines.Given as goal

-- the lines so far, and those of the groups that are left
abbrev pub invariant-loop-group : goal.invariant-loop-group
invariant-loop-group l =
    let lines : List Group → List ℕ = λ groups. flat_map group_line (map (rows_of_group l.fn.sheet l.fn.col) groups) in
    l.text.items ++ lines (drop l.group-index l.group-items) ≡ lines l.group-items

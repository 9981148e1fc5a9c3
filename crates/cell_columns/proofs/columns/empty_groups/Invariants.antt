use Rattle.std.proofs.Common.{◌≡◌, replicate}
use Rattle.formula_groups.specs.Groups.{no_codes}
use Rattle.cell_columns.specs.Lent.{codes_of}
use Rattle.cell_columns.proofs.columns.empty_groups.Given as goal

abbrev pub invariant-loop : goal.invariant-loop
invariant-loop l = codes_of l.groups.items ≡ replicate l.counter no_codes

use Rattle.kept_codes.specs.Gathered.{Gathers, InColumns}
use Rattle.formula_groups.specs.GroupRows.{columns_of}
use Rattle.kept_codes.proofs.changing.push_changing.Given as goal

abbrev pub invariant-loop-number : goal.invariant-loop-number
invariant-loop-number l = Gathers l.fn.codes l.fn.change (InColumns (columns_of l.fn.groups) l.number) l.fn.out.items l.out.items

use Rattle.std.proofs.Common.{ap, sym, ◌∙◌, subst, refl, [], arith}
use Rattle.formula_groups.specs.Groups.{codes_of}
use Rattle.formula_groups.proofs.Kept.{no-codes, table-kept, IsKept}
use Rattle.formula_groups.proofs.column.GroupColumn.new.Goals as goal

pub invariant_of-result : goal.invariant_of-result
invariant_of-result c = subst IsKept (sym c.new.ensures.items) (table-kept [] [] (omega arith) refl)

pub returns : goal.returns
returns c = ap codes_of c.new.ensures.items ∙ no-codes

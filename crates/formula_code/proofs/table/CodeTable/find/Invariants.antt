use Rattle.std.proofs.Common.{ℕ, ◌<◌, slice_index}
use Rattle.formula_code.specs.Codes.{HasForm}
use Rattle.formula_code.specs.Relative.{relative}
use Rattle.formula_code.proofs.table.CodeTable.find.Given as goal

abbrev pub invariant-loop-number : goal.invariant-loop-number
invariant-loop-number l = (k : ℕ) → k < l.number-index → HasForm l.self (slice_index l.number-items k) (relative l.home l.tree) → ⊥

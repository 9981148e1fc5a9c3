-- The formulas of neighbouring rows by the groups of their column.
use Rattle.std.specs.Prelude.{ℕ, ◌+◌, ◌-◌, ◌==◌, List, max, min, sum_by, if◌then◌else◌}
use Rattle.formula_groups.specs.declared.group.Group.{Group}

-- how many of the rows from the first to the last the group has
abbrev pub overlap : ℕ → ℕ → Group → ℕ
overlap first last g = min g.last last + 1 - max g.first first

-- how many of these rows have the code, and how many have one
abbrev pub uses_among : ℕ → ℕ → ℕ → List Group → ℕ
uses_among id first last groups = sum_by (λ (g : Group). if id == g.code then overlap first last g else 0) groups

abbrev pub formulas_among : ℕ → ℕ → List Group → ℕ
formulas_among first last groups = sum_by (overlap first last) groups

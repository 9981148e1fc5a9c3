-- The cells of a run that a group has.
use Rattle.std.specs.Prelude.{ℕ, Bool, ◌&&◌, nat_le}
use Rattle.calc_addr.specs.Places.{Place, Rows}
use Rattle.formula_groups.specs.declared.group.Group.{Group}
use Rattle.registration_slab.specs.Slab.{is_in}

-- the group has the row
abbrev pub has_row : Group → ℕ → Bool
has_row group row = nat_le group.first row && nat_le row group.last

-- the cell is one of those of a run that the group has
abbrev pub is_in_group : Rows → Group → Place → Bool
is_in_group rows group q = is_in rows q && has_row group q.row

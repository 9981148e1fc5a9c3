use Rattle.std.proofs.Common.{◌≡◌, ◌||◌}
use Rattle.std.specs.List.{list_any}
use Rattle.calc_addr.specs.Places.{Place, covers}
use Rattle.workbook.specs.Touched.{contains_cell}
use Rattle.workbook.proofs.touched.Touched.areas.Given as goal

-- the areas so far, and the cells that are left
abbrev pub invariant-loop-cell : goal.invariant-loop-cell
invariant-loop-cell l = (q : Place) → (list_any (λ area. covers area q) l.areas.items || contains_cell l.cell-iterator q) ≡ (list_any (λ area. covers area q) l.self.areas || contains_cell l.self.cells q)

-- the values so far, and those of the cells that are left
use Rattle.std.proofs.Common.{◌≡◌, ◌++◌, map}
use Rattle.calc_model.specs.Meanings.{values_in}
use Rattle.calc_watch.proofs.known.values_in.Given as goal

abbrev pub invariant-loop-cell : goal.invariant-loop-cell
invariant-loop-cell g l = l.known.items ++ map (g.V.Values.values l.values) l.cell-iterator ≡ values_in (g.V.Values.values l.values) l.fn.area

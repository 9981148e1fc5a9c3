use Rattle.std.proofs.Common.{◌≡◌, true, take}
use Rattle.calc_addr.specs.Places.{covers}
use Rattle.dirty_spread.specs.Marking.{IsFormulaIn, Marks, is_in_any}
use Rattle.dirty_spread.proofs.marking.mark_area.Given as goal

abbrev pub invariant-loop-run : goal.invariant-loop-run
invariant-loop-run l =
    Marks l.formulas (λ q. (is_in_any q (take l.run-index l.run-items) ≡ true) × (covers l.area q ≡ true)) (IsFormulaIn l.formulas l.area) l.initial.marks l.marks l.initial.found.items l.found.items

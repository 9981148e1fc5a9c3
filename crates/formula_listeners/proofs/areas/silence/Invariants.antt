use Rattle.std.proofs.Common.{◌≡◌, ℕ, false, cond, None}
use Rattle.calc_addr.specs.Places.{Place, Rectangle}
use Rattle.listener_hub.specs.Hubs.{areas_read}
use Rattle.listener_hub.specs.Known.{Known}
use Rattle.formula_listeners.proofs.AreaCells.{is_before}
use Rattle.formula_listeners.proofs.areas.silence.Given as goal

-- the columns before this one are silent
pub record AreSilent (area : Rectangle) (col : ℕ) (old now : Known) : Type 0 where
  pub ready : now.spent ≡ false
  pub areas : (q : Place) → areas_read now q ≡ cond (is_before area col q) None (areas_read old q)

abbrev pub invariant-loop-col : goal.invariant-loop-col
invariant-loop-col l = AreSilent l.fn.area l.col l.fn.hub l.hub

use Rattle.std.proofs.Common.{◌≤◌, ◌<◌, ◌+◌, ◌-◌, ℕ, [], ◌∷◌, ◌++◌, sym, subst, arith}
use Rattle.std.proofs.Math.Nat.{le-min}
use Rattle.calc_addr.specs.Places.{column_places}
use Rattle.recalc.specs.declared.units.TheConstants.{UNIT_ROWS}
use Rattle.recalc.specs.declared.units.Unit.{Unit}
use Rattle.recalc.specs.CodedUnits.{AreCodedUnits}
use Rattle.recalc.proofs.UnitLists.{added}
use Rattle.recalc.proofs.units.push_rows.Goals as goal

pub returns-clause-from : goal.returns-clause-from
returns-clause-from c =
    subst (λ (v : ℕ). c.args.part.now.first ≤ v) (sym c.last_row-last.ensures)
    (le-min c.requires.in_order (few c.args.part.now.first c.in_ok-first.first c.in_ok-first.ensures.few))
  where
    few : (a b : ℕ) → a < b + UNIT_ROWS → a ≤ b + (UNIT_ROWS - 1)
    few a b h = omega (arith, h)

pub returns-clause-cells : goal.returns-clause-cells
returns-clause-cells c = λ columns cells is are.
    let part : Unit = c.args.part.now in
    let made = added columns cells c.open.new.units.items part is c.in_ok-first.first (c.in_ok-first.ensures.open columns cells is are) in
    subst (AreCodedUnits columns (cells ++ column_places part.sheet part.col part.first c.last_row-last.result)) (sym c.in_ok-push.ensures.items)
    (subst (λ (v : ℕ). AreCodedUnits columns (cells ++ column_places part.sheet part.col part.first v) (c.open.new.units.items ++ record part { first = c.in_ok-first.first; last = v } ∷ [])) (sym c.last_row-last.ensures) made)

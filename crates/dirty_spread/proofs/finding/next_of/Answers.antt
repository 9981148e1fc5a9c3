use Rattle.std.proofs.Common.{◌<◌, sym, subst, ◌∙◌, arith}
use Rattle.dirty_spread.specs.Finding.{IsNextIn}
use Rattle.dirty_spread.proofs.Found.{at_none, at_some, skipped_all, skipped_none, skipped_on}
use Rattle.dirty_spread.proofs.finding.next_of.Goals as goal

pub loop-cell-smaller : goal.loop-cell-smaller
loop-cell-smaller c =
    let cells = c.args.cells.now in
    let here = at_some cells c.loop-cell.at c.in-Some.cell (sym c.in-Some.ensures) in
    let on : c.loop-cell.at < c.first_from-at.result =
    skipped_on cells c.requires.in_order c.args.area.now c.args.from c.loop-cell.at c.in-Some.cell here.0 here.1 (sym c.covers.ensures ∙ c.if-covers.false) c.loop-cell.invariant.none
    c.in-Some-skip.next c.in-Some-skip.ensures.0 c.in-Some-skip.ensures.1 c.first_from-at.result c.first_from-at.ensures in
    omega (arith, here.0, c.first_from-at.ensures.within)

pub loop-cell-preserved : goal.loop-cell-preserved
loop-cell-preserved c =
    let cells = c.args.cells.now in
    let here = at_some cells c.loop-cell.at c.in-Some.cell (sym c.in-Some.ensures) in
    let on : c.loop-cell.at < c.first_from-at.result =
    skipped_on cells c.requires.in_order c.args.area.now c.args.from c.loop-cell.at c.in-Some.cell here.0 here.1 (sym c.covers.ensures ∙ c.if-covers.false) c.loop-cell.invariant.none
    c.in-Some-skip.next c.in-Some-skip.ensures.0 c.in-Some-skip.ensures.1 c.first_from-at.result c.first_from-at.ensures in
    record {
      from = omega (arith, c.loop-cell.invariant.from);
      within = c.first_from-at.ensures.within;
      none = skipped_none cells c.requires.in_order c.args.area.now c.args.from c.loop-cell.at c.in-Some.cell here.0 here.1 (sym c.covers.ensures ∙ c.if-covers.false) c.loop-cell.invariant.none
          c.in-Some-skip.next c.in-Some-skip.ensures.0 c.in-Some-skip.ensures.1 c.first_from-at.result c.first_from-at.ensures;
    }

pub returns-in-None-clause-next : goal.returns-in-None-clause-next
returns-in-None-clause-next c =
    let cells = c.args.cells.now in
    let here = at_some cells c.loop-cell.at c.in-Some.cell (sym c.in-Some.ensures) in
    subst (λ n. IsNextIn cells c.args.area.now c.args.from n) (sym c.len.ensures)
    (skipped_all cells c.requires.in_order c.args.area.now c.args.from c.loop-cell.at c.in-Some.cell here.0 here.1 (sym c.covers.ensures ∙ c.if-covers.false) c.loop-cell.invariant.none c.in-None.ensures)

pub returns-clause-next : goal.returns-clause-next
returns-clause-next c = record {
  within = c.loop-cell.invariant.within;
  here = λ less. absurd (at_none c.args.cells.now c.loop-cell.at (sym c.cell.ensures ∙ c.in_default.is) less);
  none = c.loop-cell.invariant.none;
}

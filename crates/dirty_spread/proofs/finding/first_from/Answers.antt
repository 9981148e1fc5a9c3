use Rattle.std.proofs.Common.{sym, subst, ◌∙◌, arith}
use Rattle.std.proofs.lemmas.Bool.{false≢true}
use Rattle.calc_addr.specs.Places.{IsBefore}
use Rattle.dirty_spread.proofs.Found.{at_none, at_some, up_to}
use Rattle.dirty_spread.proofs.finding.first_from.Goals as goal

pub loop-low-preserved-then-is_before : goal.loop-low-preserved-then-is_before
loop-low-preserved-then-is_before c =
    let cells = c.args.cells.now in
    let middle = at_some cells _ c.in-Some.found (sym c.in-Some.ensures) in
    record {
      order = omega arith;
      within = c.loop-low.invariant.within;
      before = λ i less. up_to cells c.requires c.args.cell.now i _ middle.0 (omega arith) (subst (λ p. IsBefore p c.args.cell.now) (sym middle.1) (c.is_before.ensures.0 c.if-is_before.true));
      from = c.loop-low.invariant.from;
    }

pub loop-low-preserved-in_default : goal.loop-low-preserved-in_default
loop-low-preserved-in_default c =
    let cells = c.args.cells.now in
    let middle = at_some cells _ c.in-Some.found (sym c.in-Some.ensures) in
    record {
      order = omega arith;
      within = omega arith;
      before = c.loop-low.invariant.before;
      from = λ i low within h. let no = λ (b : IsBefore c.in-Some.found c.args.cell.now). false≢true (sym c.if-is_before.false ∙ c.is_before.ensures.1 b) in no (subst (λ p. IsBefore p c.args.cell.now) middle.1 (up_to cells c.requires c.args.cell.now _ i within low h));
    }

pub loop-low-preserved : goal.loop-low-preserved
loop-low-preserved c = absurd (at_none c.args.cells.now _ (sym c.cell.ensures ∙ c.in_default.is) (omega arith))

use Rattle.std.proofs.Common.{◌≡◌, ◌≤◌, ◌<◌, ◌+◌, ◌-◌, ◌/◌, ap, subst, ◌∙◌, arith}
use Rattle.cell_runs.specs.CellLists.{first_number}
use Rattle.cell_runs.proofs.Numbers.{mapped_at}
use Rattle.cell_runs.proofs.cells.first_behind.Goals as goal

pub loop-low-preserved-then-number-cell : goal.loop-low-preserved-then-number-cell
loop-low-preserved-then-number-cell c =
    let run = c.index-runs-middle.result in
    let is : c.number.result ≡ first_number run = c.number.ensures ∙ ap first_number c.run.view_is in
    record {
      order = omega arith;
      within = omega arith;
      before = λ j e. mapped_at first_number c.args.runs.now (c.loop-low.low + (c.loop-low.high - c.loop-low.low) / 2) j run (λ v. v ≤ c.args.cell) (omega arith) c.index-runs-middle.is (omega arith) (subst (λ v. v ≤ c.args.cell) is c.if-number-cell.true);
      here = c.loop-low.invariant.here;
    }

pub loop-low-preserved : goal.loop-low-preserved
loop-low-preserved c =
    let run = c.index-runs-middle.result in
    let is : c.number.result ≡ first_number run = c.number.ensures ∙ ap first_number c.run.view_is in
    let middle = c.loop-low.low + (c.loop-low.high - c.loop-low.low) / 2 in
    record {
      order = omega arith;
      within = omega arith;
      before = c.loop-low.invariant.before;
      here = mapped_at first_number c.args.runs.now middle middle run (λ v. c.args.cell < v) (omega arith) c.index-runs-middle.is (omega arith) (subst (λ v. c.args.cell < v) is c.if-number-cell.false);
    }

use Rattle.std.proofs.Common.{ap, ◌∙◌, arith}
use Rattle.std.specs.List.{count_by}
use Rattle.calc_model.specs.UsedCells.{values_of}
use Rattle.fn_args.proofs.Counting.{count-append, few-pass}
use Rattle.fn_args.proofs.counts.count_area.Goals as goal

pub overflow_add-count : goal.overflow_add-count
overflow_add-count g c =
    let p = g.T.Test.test c.args.test.now in
    let v = g.V.Values.values c.args.values.now in
    let split = ap (count_by p) c.in-Some.ensures.steps.front ∙ count-append p (values_of c.in-Some.piece) c.next.new.self in
    omega (arith, split, c.count_piece.ensures, c.loop-piece.invariant.0, few-pass p v c.args.area c.lies_in_sheet.ensures)

pub returns-clause-few : goal.returns-clause-few
returns-clause-few g c =
    omega (arith, c.loop-piece.invariant.0, few-pass (g.T.Test.test c.args.test.now) (g.V.Values.values c.args.values.now) c.args.area c.lies_in_sheet.ensures)

use Rattle.std.proofs.Common.{◌≡◌, pos, true, get_or, FitsSigned, arith, rules, w64, below_more}
use Rattle.std.proofs.lemmas.Int.{to_z-of_z}
use Rattle.std.proofs.lemmas.Bool.Decides.{nat_tests}
use Rattle.lane_kernels.specs.Lanes.{is_i64}
use Rattle.lane_kernels.specs.Signs.{exact}
use Rattle.lane_kernels.proofs.Crossings.{crossing_at, no_crossing}
use Rattle.lane_kernels.proofs.arithmetic.first_crossed.Goals as goal

pub returns-then-over : goal.returns-then-over
returns-then-over c =
    let left : FitsSigned w64 (get_or c.args.a.now c.loop-lane.lane (pos 0)) = search rules in
    let right : FitsSigned w64 (get_or c.args.b.now c.loop-lane.lane (pos 0)) = search rules in
    let told = simp to_z-of_z at c.apply-over.ensures.0 in
    let over = c.if-over.true in
    crossing_at (exact c.args.sign) c.args.a.now c.args.b.now c.requires.paired c.loop-lane.lane (omega arith) c.loop-lane.invariant
    (grind (arith, nat_tests))

pub loop-lane-preserved : goal.loop-lane-preserved
loop-lane-preserved c =
    let left : FitsSigned w64 (get_or c.args.a.now c.loop-lane.lane (pos 0)) = search rules in
    let right : FitsSigned w64 (get_or c.args.b.now c.loop-lane.lane (pos 0)) = search rules in
    let told = simp to_z-of_z at c.apply-over.ensures.0 in
    let quiet = c.if-over.false in
    below_more (λ k. is_i64 (exact c.args.sign (get_or c.args.a.now k (pos 0)) (get_or c.args.b.now k (pos 0))) ≡ true) c.loop-lane.lane
    c.loop-lane.invariant (grind (arith, nat_tests))

pub returns : goal.returns
returns c =
    no_crossing (exact c.args.sign) c.args.a.now c.args.b.now c.requires.paired (λ k inside. c.loop-lane.invariant k (omega arith))

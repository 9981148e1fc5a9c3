use Rattle.std.proofs.Common.{◌≡◌, ℤ, pos, true, get_or, FitsSigned, arith, rules, w64, below_more, Ok, refl}
use Rattle.std.proofs.lemmas.Int.{to_z-of_z}
use Rattle.std.proofs.lemmas.Bool.Decides.{nat_tests}
use Rattle.lane_kernels.specs.Lanes.{is_i64}
use Rattle.lane_kernels.specs.Signs.{exact}
use Rattle.lane_kernels.proofs.Crossings.{fits, lane_set, no_crossing, written, before}
use Rattle.lane_kernels.proofs.arithmetic.combine.Goals as goal

pub loop-i-preserved : goal.loop-i-preserved
loop-i-preserved c =
    let x : ℤ = get_or c.args.a.now c.loop-i.i (pos 0) in
    let y : ℤ = get_or c.args.b.now c.loop-i.i (pos 0) in
    let left : FitsSigned w64 x = search rules in
    let right : FitsSigned w64 y = search rules in
    let over = simp to_z-of_z at c.apply-lane_result.ensures.0 in
    let value = simp to_z-of_z at c.apply-lane_result.ensures.1 in
    let lane_fits = c.loop-i.invariant.fits in
    record {
      fits = λ quiet. below_more (λ k. is_i64 (exact c.args.sign (get_or c.args.a.now k (pos 0)) (get_or c.args.b.now k (pos 0))) ≡ true) c.loop-i.i
          (c.loop-i.invariant.fits (grind arith)) (grind (arith, nat_tests));
      exact = lane_set (exact c.args.sign) c.args.a.now c.args.b.now c.requires.paired c.loop-i.out c.loop-i.i _ (omega arith) c.loop-i.invariant.exact
          (λ e. rw (value e, to_z-of_z w64 (exact c.args.sign x y) (fits (exact c.args.sign x y) e)) refl);
    }

pub returns-then-crossed-clause-ok : goal.returns-then-crossed-clause-ok
returns-then-crossed-clause-ok c =
    written (exact c.args.sign) c.args.a.now c.args.b.now c.requires.paired c.loop-i.out (omega arith)
    (λ k inside. c.loop-i.invariant.exact k (omega arith)) c.first_crossed.result c.first_crossed.ensures

pub returns-then-crossed-clause-before : goal.returns-then-crossed-clause-before
returns-then-crossed-clause-before c =
    before (exact c.args.sign) c.args.a.now c.args.b.now c.requires.paired c.loop-i.out (omega arith)
    (λ k inside. c.loop-i.invariant.exact k (omega arith)) c.first_crossed.result c.first_crossed.ensures

pub returns-else-crossed : goal.returns-else-crossed
returns-else-crossed c =
    let none = no_crossing (exact c.args.sign) c.args.a.now c.args.b.now c.requires.paired
    (λ k inside. c.loop-i.invariant.fits c.if-crossed.false k (omega arith)) in
    record {
      crossed = none;
      ok = written (exact c.args.sign) c.args.a.now c.args.b.now c.requires.paired c.loop-i.out (omega arith)
          (λ k inside. c.loop-i.invariant.exact k (omega arith)) (Ok tt) none;
      before = tt;
    }

use Rattle.std.proofs.Common.{sym, ◌∙◌, arith}
use Rattle.std.proofs.lemmas.Bool.{not-false, not-true}
use Rattle.dirty_spread.specs.Finding.{at}
use Rattle.dirty_spread.proofs.Passed.{passed_all, passed_more, passed_none, passed_one}
use Rattle.dirty_spread.proofs.circles.has_one.Goals as goal

pub loop-place-init : goal.loop-place-init
loop-place-init c = passed_none c.args.cells.now c.args.circles.now c.args.area.now c.next_in-place.result c.next_in-place.ensures.next

pub loop-place-preserved : goal.loop-place-preserved
loop-place-preserved c =
    passed_more c.args.cells.now c.args.circles.now c.args.area.now c.loop-place.place c.loop-place.invariant
    (not-false _ (sym c.lacks_at.ensures ∙ c.if-lacks_at.false)) c.next_of-place.result c.next_of-place.ensures.next

pub returns-then-lacks_at-clause-yes : goal.returns-then-lacks_at-clause-yes
returns-then-lacks_at-clause-yes c = λ same. (
  at c.args.circles.now c.loop-place.place,
  passed_one c.args.cells.now c.args.circles.now c.args.area.now c.loop-place.place c.loop-place.invariant
      (omega (arith, c.loop-place-test.true, c.len-count.ensures)) (not-true _ (sym c.lacks_at.ensures ∙ c.if-lacks_at.true)),
)

pub returns-clause-no : goal.returns-clause-no
returns-clause-no c = λ same.
    passed_all c.args.cells.now c.args.circles.now c.args.area.now c.loop-place.place c.loop-place.invariant
    (omega (arith, c.loop-place-test.false, c.len-count.ensures))

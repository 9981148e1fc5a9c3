use Rattle.std.proofs.Common.{ap, length, rules, subst, sym, ◌∙◌}
use Rattle.std.specs.List.{zip}
use Rattle.calc_model.specs.Meanings.{values_in}
use Rattle.calc_model.specs.UsedCells.{values_of}
use Rattle.fn_args.specs.Picks.{picked_of}
use Rattle.fn_args.specs.Tallies.{numbers_in_cells}
use Rattle.fn_args.proofs.Picking.{picked-split, split-size}
use Rattle.fn_args.proofs.Tallying.{IsUnderWay, begins, ends, goes_on, room_here, stops}
use Rattle.fn_args.proofs.picks.tally_pairs.Goals as goal

pub loop-pair-init : goal.loop-pair-init
loop-pair-init g c =
    let v = g.V.Values.values c.args.values.now in
    let all = zip (values_in v c.args.tested) (values_in v c.args.summed) in
    let test = g.C.Test.test c.args.test.now in (
      subst (λ xs. IsUnderWay g.T.Tally.step g.T.Tally.room c.args.taker.now (length all) (numbers_in_cells (picked_of test all)) (numbers_in_cells (picked_of test xs)) (length xs) c.args.taker.now)
          (sym (c.into_iter-pair-iterator.ensures.into_iter_gives ∙ c.of-pair-items.ensures))
          (begins g.T.Tally.step g.T.Tally.room c.args.taker.now (length all) (numbers_in_cells (picked_of test all))),
      tt,
      tt,
    )

pub tally_pair-requires-clause-room : goal.tally_pair-requires-clause-room
tally_pair-requires-clause-room g c =
    let cut = c.in-Some.ensures.steps in
    let front = zip (values_of c.in-Some.pair.first) (values_of c.in-Some.pair.second) in
    let test = g.C.Test.test c.args.test.now in
    room_here g.T.Tally.step g.T.Tally.room _ _ _ (numbers_in_cells (picked_of test front)) (numbers_in_cells (picked_of test c.next.new.self)) _ _ _ _ c.loop-pair.taker c.loop-pair.taker
    (picked-split test _ front c.next.new.self cut.front) (split-size _ _ c.in-Some.pair cut) c.loop-pair.invariant.0 g.met.T.Tally.room_behind c.requires

pub loop-pair-preserved : goal.loop-pair-preserved
loop-pair-preserved g c =
    let cut = c.in-Some.ensures.steps in
    let front = zip (values_of c.in-Some.pair.first) (values_of c.in-Some.pair.second) in
    let test = g.C.Test.test c.args.test.now in
    let given = c.in_ok-tally_pair.ensures {u = tt} in (
      goes_on g.T.Tally.step g.T.Tally.room _ _ _ (numbers_in_cells (picked_of test front)) (numbers_in_cells (picked_of test c.next.new.self)) _ _ _ _ c.loop-pair.taker c.tally_pair.new.taker
          (picked-split test _ front c.next.new.self cut.front) (split-size _ _ c.in-Some.pair cut) c.loop-pair.invariant.0
          given.0 given.1 given.2 given.3,
      tt,
      tt,
    )

pub returns-in_err-tally_pair : goal.returns-in_err-tally_pair
returns-in_err-tally_pair g c =
    let cut = c.in-Some.ensures.steps in
    let front = zip (values_of c.in-Some.pair.first) (values_of c.in-Some.pair.second) in
    let test = g.C.Test.test c.args.test.now in
    let bad = stops g.T.Tally.step g.T.Tally.room _ _ _ (numbers_in_cells (picked_of test front)) (numbers_in_cells (picked_of test c.next.new.self)) _ _ _ _ c.loop-pair.taker c.tally_pair.new.taker
    (picked-split test _ front c.next.new.self cut.front) (split-size _ _ c.in-Some.pair cut) c.loop-pair.invariant.0 c.in_err-tally_pair.field-0.0 (c.in_err-tally_pair.ensures {u = tt}) in
    search (rules, bad)

pub returns : goal.returns
unfolding numbers_in_cells
returns g c =
    let none = (c.in-None.ensures {u = tt}).steps.0 in
    let test = g.C.Test.test c.args.test.now in
    ends g.T.Tally.step g.T.Tally.room c.args.taker.now _ _ (numbers_in_cells (picked_of test c.loop-pair.pair-iterator)) _ _
    (ap (λ xs. numbers_in_cells (picked_of test xs)) none) (ap length none) c.loop-pair.invariant.0

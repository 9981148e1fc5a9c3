use Rattle.std.proofs.Common.{◌≡◌, ◌+◌, ◌*◌, ap, drop, length, rules, arith}
use Rattle.std.proofs.lemmas.List.{length-drop}
use Rattle.fn_args.specs.Tallies.{MOST_IN_AREA, numbers_of_arg, numbers_of_args}
use Rattle.fn_args.proofs.Tallying.{begins, count-left, ends, goes_on, no_args, numbers-first, room_here, stops}
use Rattle.fn_args.proofs.tally.tally_list.Goals as goal

pub loop-arg-init : goal.loop-arg-init
loop-arg-init g c =
    let v = g.V.Values.values c.args.values.now in
    begins g.T.Tally.step g.T.Tally.room c.args.taker.now (length c.args.args.now * MOST_IN_AREA) (numbers_of_args v c.args.args.now)

pub tally_arg-requires : goal.tally_arg-requires
tally_arg-requires g c =
    let v = g.V.Values.values c.args.values.now in
    let x = c.arg-item.result in
    let i = c.loop-arg.arg-index in
    room_here g.T.Tally.step g.T.Tally.room _ _ _ (numbers_of_arg v x) (numbers_of_args v (drop (i + 1) c.args.args.now)) _ _ _ _ c.loop-arg.taker c.loop-arg.taker
    (numbers-first v c.args.args.now i x c.loop-arg-test.true c.arg-item.is) (count-left c.args.args.now i c.loop-arg-test.true) c.loop-arg.invariant g.met.T.Tally.room_behind c.requires

pub returns-in_err-tally_arg : goal.returns-in_err-tally_arg
returns-in_err-tally_arg g c =
    let v = g.V.Values.values c.args.values.now in
    let x = c.arg-item.result in
    let i = c.loop-arg.arg-index in
    let bad = stops g.T.Tally.step g.T.Tally.room _ _ _ (numbers_of_arg v x) (numbers_of_args v (drop (i + 1) c.args.args.now)) _ _ _ _ c.loop-arg.taker c.loop-arg.taker
    (numbers-first v c.args.args.now i x c.loop-arg-test.true c.arg-item.is) (count-left c.args.args.now i c.loop-arg-test.true) c.loop-arg.invariant c.in_err-tally_arg.field-0.0 (c.in_err-tally_arg.ensures {u = tt}) in
    search (rules, bad)

pub loop-arg-preserved : goal.loop-arg-preserved
loop-arg-preserved g c =
    let v = g.V.Values.values c.args.values.now in
    let x = c.arg-item.result in
    let i = c.loop-arg.arg-index in
    let given = c.in_ok-tally_arg.ensures {u = tt} in
    goes_on g.T.Tally.step g.T.Tally.room _ _ _ (numbers_of_arg v x) (numbers_of_args v (drop (i + 1) c.args.args.now)) _ _ _ _ c.loop-arg.taker c.tally_arg.new.taker
    (numbers-first v c.args.args.now i x c.loop-arg-test.true c.arg-item.is) (count-left c.args.args.now i c.loop-arg-test.true) c.loop-arg.invariant
    given.0 given.1 given.2 given.3

pub returns : goal.returns
returns g c =
    let v = g.V.Values.values c.args.values.now in
    let rest = drop c.loop-arg.arg-index c.args.args.now in
    let none = no_args v c.args.args.now c.loop-arg.arg-index (omega (arith, c.loop-arg-test.false)) in
    let empty : length rest ≡ 0 = omega (arith, length-drop c.loop-arg.arg-index c.args.args.now, c.loop-arg-test.false) in
    ends g.T.Tally.step g.T.Tally.room c.args.taker.now _ _ (numbers_of_args v rest) _ _ none (ap (λ n. n * MOST_IN_AREA) empty) c.loop-arg.invariant

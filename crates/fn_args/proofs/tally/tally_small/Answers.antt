use Rattle.std.proofs.Common.{◌≡◌, ◌+◌, ◌-◌, length, subst, arith}
use Rattle.fn_args.proofs.tally.tally_small.Goals as goal

pub take-requires : goal.take-requires
take-requires g c =
    let n = length c.args.items.now in
    let i = c.loop-item.item-index in
    let e : n ≡ n + 0 = omega arith in
    let f : n - i + 0 ≡ n - i - 1 + 1 = omega (arith, c.loop-item-test.true) in
    g.met.T.Tally.room_behind c.loop-item.taker (n - i - 1) 1 (subst (g.T.Tally.room c.loop-item.taker) f (c.loop-item.invariant.1 0 (subst (g.T.Tally.room c.args.taker.now) e c.requires)))

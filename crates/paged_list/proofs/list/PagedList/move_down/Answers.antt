use Rattle.std.proofs.Common.{arith}
use Rattle.paged_list.proofs.Moves.{moved-down}
use Rattle.paged_list.proofs.list.PagedList.move_down.Goals as goal

pub returns-clause-items : goal.returns-clause-items
returns-clause-items g c =
    moved-down c.args.low c.args.high c.args.self.now.items c.loop-k.self.items c.requires.order c.requires.within c.loop-k.invariant.len c.loop-k.invariant.front
    (λ i d from to. c.loop-k.invariant.moved i d from (omega (arith, to, c.loop-k-test.false, c.len-k-end.ensures)))

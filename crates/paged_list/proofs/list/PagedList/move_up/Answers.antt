use Rattle.std.proofs.Common.{refl, arith}
use Rattle.paged_list.proofs.Moves.{moved-up, plain-at}
use Rattle.paged_list.proofs.list.PagedList.move_up.Goals as goal

pub loop-k-init : goal.loop-k-init
loop-k-init g c = record {
  len = refl;
  front = λ i d h. refl;
  gap = λ i d from to. plain-at c.args.end i c.args.count c.args.self.now.items g.T.Plain.plain d c.requires.plain from to;
  moved = λ i d from to. absurd (omega (arith, from, to));
  room = refl;
  above = c.requires.order;
  below = omega arith;
  to = omega (arith, c.len-to.ensures, c.requires.within);
}

pub returns-clause-items : goal.returns-clause-items
returns-clause-items g c =
    let kept = c.loop-k.invariant in
    moved-up c.args.low c.args.end c.args.count c.args.self.now.items c.loop-k.self.items g.T.Plain.plain c.requires.order c.requires.within kept.len
    (λ i d h. kept.front i d (omega (arith, h, c.loop-k-test.false, kept.above)))
    (λ i d from to. kept.gap i d (omega (arith, from, c.loop-k-test.false)) (omega (arith, to, kept.above)))
    (λ i d from to. kept.moved i d (omega (arith, from, c.loop-k-test.false)) to)

use Rattle.std.proofs.Common.{ap, arith}
use Rattle.dirty_spread.proofs.Fronts.{front_more}
use Rattle.dirty_spread.proofs.marking.mark_rows.Goals as goal

pub loop-next-preserved-then-next-stop : goal.loop-next-preserved-then-next-stop
loop-next-preserved-then-next-stop c = record {
  from = omega arith;
  end = omega arith;
  marks = front_more c.args.run.now c.args.from c.loop-next.next c.mark_front-stop.result c.args.marks.now c.loop-next.marks c.mark_front-stop.new.marks c.args.found.now.items c.loop-next.found.items c.push.new.self.items c.part_of.result
      c.loop-next.invariant.marks c.mark_front-stop.ensures.front (omega arith) (omega arith) (omega (arith, c.run.invariant.in_order, ap (λ r. r.first) c.run.view_is, ap (λ r. r.last) c.run.view_is)) c.part_of.ensures c.in_ok-push.ensures.items;
}

use Rattle.std.proofs.Common.{arith}
use Rattle.block_column.specs.declared.block.Block.{Block}
use Rattle.block_column.specs.declared.block.Kind.TheVariants.{Empty}
use Rattle.block_column.proofs.Recounts.{recount-items, recount-order, recount-fits}
use Rattle.block_column.proofs.table.recount.Goals as goal

abbrev none : Block
none = record { first = 0; last = 0; kind = Empty }

pub with-here-requires : goal.with-here-requires
with-here-requires c = recount-fits c.loop-block.here c.args.blocks.now c.loop-block.block-index none c.loop-block-test.true c.requires.small c.loop-block.invariant.in_order

pub loop-block-preserved : goal.loop-block-preserved
loop-block-preserved c =
    let l = c.loop-block in
    let h = c.loop-block-test.true in
    record {
      items = recount-items l.counts.items c.push_reserved.new.self.items _ l.here c.with-here.result c.args.blocks.now l.block-index none h c.with-here.ensures c.push_reserved.ensures.items l.invariant.items;
      len = omega (arith, c.push_reserved.ensures.len, l.invariant.len);
      capacity = omega (arith, c.push_reserved.ensures.capacity, l.invariant.capacity);
      in_order = recount-order l.here c.with-here.result c.args.blocks.now l.block-index none h c.with-here.ensures l.invariant.in_order;
    }

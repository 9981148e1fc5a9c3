use Rattle.std.proofs.Common.{◌+◌, ◌≤◌, ◌∙◌, sym, arith}
use Rattle.calc_addr.specs.declared.cell.TheConstants.{LAST_ROW}
use Rattle.cell_columns.proofs.Filled.{entry_is, filled_block, more_empty, no_key, table_rises}
use Rattle.cell_columns.proofs.walking.next_filled.Goals as goal

pub piece_at-requires : goal.piece_at-requires
piece_at-requires c = table_rises c.args.column.now.slots c.blocks-in-loop-row.result.now c.blocks-in-loop-row.ensures

pub unreachable-requires : goal.unreachable-requires
unreachable-requires c =
    let seen = entry_is c.args.column.now.slots c.blocks-in-loop-row.result.now c.blocks-in-loop-row.ensures c.requires.rows c.loop-row.row (omega (arith, c.requires.from, c.loop-row.invariant.0)) (omega (arith, c.requires.to, c.loop-row-test.true)) in
    no_key _ c.piece_at.result _ _ c.piece_at.ensures.key c.in_default.is seen

pub returns-then-holds_something-clause-found : goal.returns-then-holds_something-clause-found
returns-then-holds_something-clause-found c =
    let at = c.in-Some.ensures in
    let low : 1 ≤ c.loop-row.row = omega (arith, c.requires.from, c.loop-row.invariant.0) in
    let high : c.loop-row.row ≤ LAST_ROW = omega (arith, c.requires.to, c.loop-row-test.true) in
    record {
      from = c.loop-row.invariant.0;
      to = c.loop-row-test.true;
      filled = filled_block c.args.column.now.slots c.blocks-in-loop-row.result.now c.blocks-in-loop-row.ensures c.requires.rows c.in-Some.block at.held (sym c.holds_something.ensures ∙ c.if-holds_something.true) c.loop-row.row at.from at.to low high;
      before = c.loop-row.invariant.1;
    }

pub returns-then-last-block-clause-none : goal.returns-then-last-block-clause-none
returns-then-last-block-clause-none c =
    let at = c.in-Some.ensures in
    more_empty c.args.column.now.slots c.blocks-in-loop-row.result.now c.blocks-in-loop-row.ensures c.requires.rows c.in-Some.block at.held (sym c.holds_something.ensures ∙ c.if-holds_something.false)
    c.args.first c.loop-row.row (c.args.last + 1) c.requires.from at.from (omega (arith, c.if-last-block.true)) (omega (arith, c.requires.to)) c.loop-row.invariant.1

pub loop-row-preserved : goal.loop-row-preserved
loop-row-preserved c =
    let at = c.in-Some.ensures in (
      omega (arith, c.loop-row.invariant.0, at.to),
      more_empty c.args.column.now.slots c.blocks-in-loop-row.result.now c.blocks-in-loop-row.ensures c.requires.rows c.in-Some.block at.held (sym c.holds_something.ensures ∙ c.if-holds_something.false)
          c.args.first c.loop-row.row (c.in-Some.block.last + 1) c.requires.from at.from (omega arith) (omega (arith, c.if-last-block.false, c.requires.to)) c.loop-row.invariant.1,
    )

use Rattle.std.proofs.Common.{◌-◌, ◌++◌, ◌∷◌, [], ap, ◌∙◌, arith}
use Rattle.calc_addr.specs.declared.cell.TheConstants.{LAST_ROW}
use Rattle.block_column.specs.declared.block.Kind.TheVariants.{Empty}
use Rattle.block_column.specs.Tables.{no_slots}
use Rattle.block_column.proofs.Kept.{empty-table}
use Rattle.block_column.proofs.table.Table.new.Goals as goal

pub returns : goal.returns
unfolding no_slots
returns c =
    empty-table (record { blocks = c.push.new.self; counts = c.push-2.new.self; stores = c.new.result }) LAST_ROW (LAST_ROW - 1) (omega arith) (omega arith)
    (c.in_ok-push.ensures.items ∙ ap (λ v. v ++ record { first = 1; last = LAST_ROW; kind = Empty } ∷ []) c.new-blocks.ensures.items)
    (c.in_ok-push-2.ensures.items ∙ ap (λ v. v ++ c.none.result ∷ []) c.new-counts.ensures.items ∙ ap (λ n. n ∷ []) c.none.ensures)
    (omega (arith, c.in_ok-push.ensures.len, c.in_ok-push-2.ensures.len, c.new-blocks.ensures.len, c.new-counts.ensures.len)) c.new.ensures

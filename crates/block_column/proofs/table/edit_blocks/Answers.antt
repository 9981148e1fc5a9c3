use Rattle.std.proofs.Common.{map, Some, sym, subst, arith}
use Rattle.std.specs.List.{All}
use Rattle.std.specs.Option.{option_map}
use Rattle.std.proofs.lemmas.List.{length-map}
use Rattle.run_tables.specs.Edges.{HasSmallRows}
use Rattle.run_tables.specs.Runs.{Rises}
use Rattle.block_column.specs.Blocks.{block_run, block_kinds}
use Rattle.block_column.proofs.Recounts.{Edited, edited, runs-in_order, runs-small}
use Rattle.block_column.proofs.table.edit_blocks.Goals as goal

pub splice-requires-clause-in_order : goal.splice-requires-clause-in_order
splice-requires-clause-in_order c = runs-in_order c.args.blocks.now.items (map Some (block_kinds c.args.blocks.now.items)) c.requires.blocks.runs

pub splice-requires-clause-small : goal.splice-requires-clause-small
splice-requires-clause-small c =
    let t = c.args.blocks.now.items in
    runs-small t (map Some (block_kinds t)) (omega (arith, length-map (block_kinds t) Some, c.requires.blocks.rows)) c.requires.blocks.runs

abbrev after : (c : goal.After-recount-arg-1) → Edited c.args.blocks.now.items c.splice.new.table.items c.args.from c.args.to c.args.rows c.args.kind
after c =
    edited c.args.blocks.now.items c.splice.new.table.items c.args.from c.args.to c.args.rows (option_map (λ b. b.kind) c.key_of.result) c.args.kind
    c.requires.order c.requires.to c.requires.rows c.key_of.ensures c.requires.blocks.runs c.in_ok-splice.ensures.done

pub recount-requires-clause-in_order : goal.recount-requires-clause-in_order
recount-requires-clause-in_order c = subst (λ v. Rises 1 (map block_run v)) (sym c.deref.ensures.value) (after c).in_order

pub recount-requires-clause-small : goal.recount-requires-clause-small
recount-requires-clause-small c = subst (All (λ b. HasSmallRows (block_run b))) (sym c.deref.ensures.value) (after c).small

pub returns-clause-ok : goal.returns-clause-ok
returns-clause-ok c =
    (edited c.args.blocks.now.items c.splice.new.table.items c.args.from c.args.to c.args.rows (option_map (λ b. b.kind) c.key_of.result) c.args.kind
    c.requires.order c.requires.to c.requires.rows c.key_of.ensures c.requires.blocks.runs c.in_ok-splice.ensures.done).runs

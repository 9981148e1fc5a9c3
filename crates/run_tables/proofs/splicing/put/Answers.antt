use Rattle.std.proofs.Common.{◌++◌, ap, sym, ◌∙◌, arith, take, drop}
use Rattle.std.specs.Option.{option_to_list}
use Rattle.std.specs.Result.{is_ok}
use Rattle.run_tables.proofs.Places.{insert-front, insert-back}
use Rattle.run_tables.proofs.splicing.put.Goals as goal

pub returns-else-from-to-clause-front : goal.returns-else-from-to-clause-front
returns-else-from-to-clause-front g c =
    insert-front (is_ok c.insert.result) c.args.table.now.items c.insert.new.self.items c.args.from c.in-Some.piece (omega arith) (c.insert.ensures.succeeds c.requires.room) c.insert.ensures.items
    ∙ ap (λ o. take c.args.from c.args.table.now.items ++ option_to_list o) (sym c.in-Some.is)

pub returns-else-from-to-clause-back : goal.returns-else-from-to-clause-back
returns-else-from-to-clause-back g c =
    insert-back (is_ok c.insert.result) c.args.table.now.items c.insert.new.self.items c.args.from c.in-Some.piece (omega arith) (c.insert.ensures.succeeds c.requires.room) c.insert.ensures.items
    ∙ ap (λ n. drop n c.args.table.now.items) (omega arith)

use Rattle.calc_cli.specs.declared.status.TheConstants.{DESK_FAILED, NO_MEMORY}
use Rattle.std.proofs.Common.{length, refl}
use Rattle.calc_cli.proofs.Ended.{disturbed}
use Rattle.calc_cli.proofs.command.run_book.Goals as goal

pub returns-in-Ok-clause-takes : goal.returns-in-Ok-clause-takes
returns-in-Ok-clause-takes g c =
    λ book script told. record {
      leaves = c.finish.ensures.leaves script _ _ (c.in-Ok.ensures.left book script told);
      book_within = c.in-Ok.ensures.book_within book told.has_book;
      script_within = c.in-Ok.ensures.script_within script told.has_script;
    }

pub returns-in-Err-Failed-clause-ends_somehow : goal.returns-in-Err-Failed-clause-ends_somehow
returns-in-Err-Failed-clause-ends_somehow g c = disturbed (length c.args.stock.items) DESK_FAILED (g.K.Sink.written c.args.sink.now) (λ calm. calm.desk refl)

pub returns-clause-ends_somehow : goal.returns-clause-ends_somehow
returns-clause-ends_somehow g c = disturbed (length c.args.stock.items) NO_MEMORY (g.K.Sink.written c.args.sink.now) (λ calm. calm.memory refl)

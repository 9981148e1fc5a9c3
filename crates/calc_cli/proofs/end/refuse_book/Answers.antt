-- All of the refusal is written.
use Rattle.std.proofs.Common.{rules, ◌≡◌}
use Rattle.calc_cli.specs.Ending.{book_refused}
use Rattle.calc_cli.proofs.Ended.{refusal_ends}
use Rattle.calc_cli.proofs.end.refuse_book.Goals as goal

pub returns-in-Ok-write_all-clause-ends : goal.returns-in-Ok-write_all-clause-ends
returns-in-Ok-write_all-clause-ends g c =
    let text : c.deref.result.now ≡ (book_refused c.args.cause).written = search rules in
    refusal_ends c.args.cause c.deref.result.now (g.K.Sink.written c.args.sink.now) (g.K.Sink.written c.write_all.new.sink) text c.in-Ok-write_all.ensures.ok

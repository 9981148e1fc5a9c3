use Rattle.std.proofs.Common.{rules, ◌≡◌, Some, length, refl, subst, sym}
use Rattle.formula_reader.proofs.OneMeaning.{one_meaning}
use Rattle.calc_cli.specs.Ending.{ending}
use Rattle.calc_cli.specs.Runs.{Ends, TakesWhole}
use Rattle.calc_cli.proofs.Ended.{disturbed, told_of}
use Rattle.calc_cli.specs.declared.status.TheConstants.{NO_MEMORY}
use Rattle.calc_words.specs.Words.{book_name}
use Rattle.calc_cli.proofs.command.run.Goals as goal

pub returns-in-Ok-Some-clause-ends : goal.returns-in-Ok-Some-clause-ends
returns-in-Ok-Some-clause-ends g c =
    λ field reads book script serves.
    let desk = c.args.desk.now in
    let named : book_name c.args.words.now ≡ Some c.said.inside.book = search rules in
    let told = told_of (g.D.Desk.books desk) (g.D.Desk.script_left desk) c.args.words.now book script c.said.inside.book serves named in
    subst (λ f. Ends c.run_book.result (g.K.Sink.written c.args.sink.now) (g.K.Sink.written c.run_book.new.sink) (ending f (length c.args.stock.items) book script)) (sym (one_meaning field reads)) (c.run_book.ensures.ends book script told)

pub returns-in-Ok-Some-clause-takes : goal.returns-in-Ok-Some-clause-takes
returns-in-Ok-Some-clause-takes g c =
    λ book script serves.
    let desk = c.args.desk.now in
    let named : book_name c.args.words.now ≡ Some c.said.inside.book = search rules in
    c.run_book.ensures.takes book script (told_of (g.D.Desk.books desk) (g.D.Desk.script_left desk) c.args.words.now book script c.said.inside.book serves named)

pub returns-in-Ok-Some-clause-sink_room : goal.returns-in-Ok-Some-clause-sink_room
returns-in-Ok-Some-clause-sink_room g c =
    λ field reads book script serves.
    let desk = c.args.desk.now in
    let named : book_name c.args.words.now ≡ Some c.said.inside.book = search rules in
    let sink = g.K.Sink in
    let told = told_of (g.D.Desk.books desk) (g.D.Desk.script_left desk) c.args.words.now book script c.said.inside.book serves named in
    subst (λ f. TakesWhole c.run_book.result (sink.room c.args.sink.now) (length (ending f (length c.args.stock.items) book script).written) (sink.faults c.args.sink.now) (sink.faults c.run_book.new.sink)) (sym (one_meaning field reads)) (c.run_book.ensures.sink_room book script told)

pub returns-in-Err-clause-ends_somehow : goal.returns-in-Err-clause-ends_somehow
returns-in-Err-clause-ends_somehow g c = λ _. disturbed (length c.args.stock.items) NO_MEMORY (g.K.Sink.written c.args.sink.now) (λ calm. calm.memory refl)

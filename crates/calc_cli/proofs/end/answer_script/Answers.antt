use Rattle.std.proofs.Common.{rules, true, false, length, refl, subst, sym, arith}
use Rattle.calc_io.specs.Sink.{HasRoom}
use Rattle.byte_cuts.specs.Lines.{lines_of}
use Rattle.formula_reader.specs.Fields.{field_of}
use Rattle.calc_cli.specs.declared.status.TheConstants.{DONE, LINE_REFUSED, NO_MEMORY, SINK_FAILED}
use Rattle.calc_cli.specs.Ending.{answered, calculated}
use Rattle.calc_cli.specs.Output.{Session, output}
use Rattle.calc_cli.specs.Runs.{Ends}
use Rattle.calc_cli.specs.Sessions.{session_of}
use Rattle.calc_cli.proofs.Ended.{answered_ends, cut_short}
use Rattle.calc_cli.proofs.Loaded.{loaded_session}
use Rattle.calc_cli.proofs.end.answer_script.Goals as goal

pub returns-in-Ok-true-clause-ends : goal.returns-in-Ok-true-clause-ends
unfolding calculated
returns-in-Ok-true-clause-ends g c =
    let written = g.K.Sink.written in
    let same = loaded_session c.new-session.result c.in-Ok.workbook c.args.book (length c.args.stock.items) c.new-session.ensures.workbook c.new-session.ensures.watchers c.new-session.ensures.stock c.in-Ok.ensures.book c.in-Ok.ensures.stale in
    subst (λ (s : Session). Ends LINE_REFUSED (written c.args.sink.now) (written c.write_output.new.sink) (answered field_of s (lines_of c.args.script.now))) same
    (answered_ends LINE_REFUSED true (session_of c.new-session.result) (lines_of c.args.script.now) (written c.args.sink.now) (written c.write_output.new.sink) refl (omega arith) (search rules) c.in-Ok-true.ensures.ok)

pub returns-in-Ok-false-clause-ends : goal.returns-in-Ok-false-clause-ends
unfolding calculated
returns-in-Ok-false-clause-ends g c =
    let written = g.K.Sink.written in
    let same = loaded_session c.new-session.result c.in-Ok.workbook c.args.book (length c.args.stock.items) c.new-session.ensures.workbook c.new-session.ensures.watchers c.new-session.ensures.stock c.in-Ok.ensures.book c.in-Ok.ensures.stale in
    subst (λ (s : Session). Ends DONE (written c.args.sink.now) (written c.write_output.new.sink) (answered field_of s (lines_of c.args.script.now))) same
    (answered_ends DONE false (session_of c.new-session.result) (lines_of c.args.script.now) (written c.args.sink.now) (written c.write_output.new.sink) refl (omega arith) (search rules) c.in-Ok-false.ensures.ok)

pub returns-in-Ok-true-clause-room : goal.returns-in-Ok-true-clause-room
unfolding calculated
returns-in-Ok-true-clause-room g c =
    λ has.
    let same = loaded_session c.new-session.result c.in-Ok.workbook c.args.book (length c.args.stock.items) c.new-session.ensures.workbook c.new-session.ensures.watchers c.new-session.ensures.stock c.in-Ok.ensures.book c.in-Ok.ensures.stale in
    let room = subst (λ (s : Session). HasRoom (g.K.Sink.room c.args.sink.now) (length (output field_of s 1 (lines_of c.args.script.now)))) (sym same) has in
    (λ e. absurd (omega arith), c.write_output.ensures.no_fault room)

pub returns-in-Ok-false-clause-room : goal.returns-in-Ok-false-clause-room
unfolding calculated
returns-in-Ok-false-clause-room g c =
    λ has.
    let same = loaded_session c.new-session.result c.in-Ok.workbook c.args.book (length c.args.stock.items) c.new-session.ensures.workbook c.new-session.ensures.watchers c.new-session.ensures.stock c.in-Ok.ensures.book c.in-Ok.ensures.stale in
    let room = subst (λ (s : Session). HasRoom (g.K.Sink.room c.args.sink.now) (length (output field_of s 1 (lines_of c.args.script.now)))) (sym same) has in
    (λ e. absurd (omega arith), c.write_output.ensures.no_fault room)

pub returns-in-Err-Failed-clause-room : goal.returns-in-Err-Failed-clause-room
unfolding calculated
returns-in-Err-Failed-clause-room g c =
    λ has.
    let same = loaded_session c.new-session.result c.in-Ok.workbook c.args.book (length c.args.stock.items) c.new-session.ensures.workbook c.new-session.ensures.watchers c.new-session.ensures.stock c.in-Ok.ensures.book c.in-Ok.ensures.stale in
    let room = subst (λ (s : Session). HasRoom (g.K.Sink.room c.args.sink.now) (length (output field_of s 1 (lines_of c.args.script.now)))) (sym same) has in
    (λ _. c.in-Err-Failed.ensures.fits room (search rules), c.write_output.ensures.no_fault room)

pub returns-clause-room : goal.returns-clause-room
unfolding calculated
returns-clause-room g c =
    λ has.
    let same = loaded_session c.new-session.result c.in-Ok.workbook c.args.book (length c.args.stock.items) c.new-session.ensures.workbook c.new-session.ensures.watchers c.new-session.ensures.stock c.in-Ok.ensures.book c.in-Ok.ensures.stale in
    let room = subst (λ (s : Session). HasRoom (g.K.Sink.room c.args.sink.now) (length (output field_of s 1 (lines_of c.args.script.now)))) (sym same) has in
    (λ e. absurd (omega arith), c.write_output.ensures.no_fault room)

pub returns-in-Err-Failed-clause-ends : goal.returns-in-Err-Failed-clause-ends
unfolding calculated
returns-in-Err-Failed-clause-ends g c =
    let written = g.K.Sink.written in
    let same = loaded_session c.new-session.result c.in-Ok.workbook c.args.book (length c.args.stock.items) c.new-session.ensures.workbook c.new-session.ensures.watchers c.new-session.ensures.stock c.in-Ok.ensures.book c.in-Ok.ensures.stale in
    subst (λ (s : Session). Ends SINK_FAILED (written c.args.sink.now) (written c.write_output.new.sink) (answered field_of s (lines_of c.args.script.now))) same
    (cut_short SINK_FAILED (session_of c.new-session.result) (lines_of c.args.script.now) (written c.args.sink.now) (written c.write_output.new.sink) (λ calm. calm.sink refl) (λ e. absurd (omega (arith, e))) c.in-Err-Failed.ensures.err)

pub returns-clause-ends : goal.returns-clause-ends
unfolding calculated
returns-clause-ends g c =
    let written = g.K.Sink.written in
    let same = loaded_session c.new-session.result c.in-Ok.workbook c.args.book (length c.args.stock.items) c.new-session.ensures.workbook c.new-session.ensures.watchers c.new-session.ensures.stock c.in-Ok.ensures.book c.in-Ok.ensures.stale in
    subst (λ (s : Session). Ends NO_MEMORY (written c.args.sink.now) (written c.write_output.new.sink) (answered field_of s (lines_of c.args.script.now))) same
    (cut_short NO_MEMORY (session_of c.new-session.result) (lines_of c.args.script.now) (written c.args.sink.now) (written c.write_output.new.sink) (λ calm. calm.memory refl) (λ e. absurd (omega (arith, e))) c.in-Err-NoMemory.ensures.err)

pub returns-in-Err-Failed-clause-faults : goal.returns-in-Err-Failed-clause-faults
returns-in-Err-Failed-clause-faults g c = record { later = c.write_output.ensures.later; cause = λ _. c.in-Err-Failed.ensures.cause (search rules) }

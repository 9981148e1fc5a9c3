use Rattle.std.proofs.Common.{rules, ◌≡◌, ◌+◌, ◌∷◌, ◌++◌, ◌||◌, length, ap, subst, sym, arith, ◌∙◌}
use Rattle.calc_io.specs.Sink.{HasRoom}
use Rattle.calc_script.specs.Commands.{line_of}
use Rattle.byte_cuts.specs.Lines.{lines_of}
use Rattle.formula_reader.specs.Fields.{field_of}
use Rattle.calc_cli.specs.Output.{Session, answer, has_refusal, output}
use Rattle.calc_cli.specs.Sessions.{session_of}
use Rattle.calc_cli.specs.Runs.{GrowsWithin}
use Rattle.calc_cli.proofs.FewLines.{few_lines}
use Rattle.calc_cli.proofs.Pieces.{at_error}
use Rattle.calc_cli.proofs.Progress.{IsWrittenTo, part_written, refused_more, stopped_inside, room_for_part, room_behind_part}
use Rattle.calc_cli.proofs.output.write_output.Goals as goal

pub returns-in_err-refused-clause-err : goal.returns-in_err-refused-clause-err
returns-in_err-refused-clause-err g c =
    let sink = g.K.Sink in
    let whole = output field_of (session_of c.args.session.now) 1 (lines_of c.args.script.now) in
    let now = session_of c.loop-line.session in
    let here = answer now c.loop-line.number (line_of field_of c.in-Some.line.now) in
    at_error c.from_residual.result (GrowsWithin (sink.written c.args.sink.now) (sink.written c.write_line.new.sink) whole)
    (stopped_inside (sink.written c.args.sink.now) (sink.written c.loop-line.sink) (sink.written c.write_line.new.sink) whole here.text (output field_of here.session (c.loop-line.number + 1) c.next.new.self)
    (subst (λ lines. IsWrittenTo (sink.written c.args.sink.now) (sink.written c.loop-line.sink) whole (output field_of now c.loop-line.number lines)) c.in-Some.ensures.steps c.loop-line.invariant.written)
    c.in_err-refused.ensures.err)

pub returns-in_err-refused-clause-fits : goal.returns-in_err-refused-clause-fits
returns-in_err-refused-clause-fits g c =
    λ has.
    let sink = g.K.Sink in
    let now = session_of c.loop-line.session in
    let here = answer now c.loop-line.number (line_of field_of c.in-Some.line.now) in
    let room : HasRoom (sink.room c.loop-line.sink) (length here.text) = room_for_part (sink.room c.loop-line.sink) here.text (output field_of here.session (c.loop-line.number + 1) c.next.new.self) (subst (λ lines. HasRoom (sink.room c.loop-line.sink) (length (output field_of now c.loop-line.number lines))) c.in-Some.ensures.steps (c.loop-line.invariant.room has)) in
    search (rules, c.in_err-refused.ensures.fits room)

pub returns-in_err-refused-clause-no_fault : goal.returns-in_err-refused-clause-no_fault
returns-in_err-refused-clause-no_fault g c =
    λ has.
    let sink = g.K.Sink in
    let now = session_of c.loop-line.session in
    let here = answer now c.loop-line.number (line_of field_of c.in-Some.line.now) in
    c.in_err-refused.ensures.no_fault (room_for_part (sink.room c.loop-line.sink) here.text (output field_of here.session (c.loop-line.number + 1) c.next.new.self) (subst (λ lines. HasRoom (sink.room c.loop-line.sink) (length (output field_of now c.loop-line.number lines))) c.in-Some.ensures.steps (c.loop-line.invariant.room has)))
    ∙ c.loop-line.invariant.no_fault has

pub overflow_add-number : goal.overflow_add-number
overflow_add-number g c =
    let count : c.loop-line.number + length (c.in-Some.line.now ∷ c.next.new.self) ≡ 1 + length (lines_of c.args.script.now) = subst (λ lines. c.loop-line.number + length lines ≡ 1 + length (lines_of c.args.script.now)) c.in-Some.ensures.steps c.loop-line.invariant.count in
    omega (arith, count, few_lines c.args.script.now, c.requires)

pub loop-line-preserved : goal.loop-line-preserved
loop-line-preserved g c =
    let sink = g.K.Sink in
    let inv = c.loop-line.invariant in
    let whole = output field_of (session_of c.args.session.now) 1 (lines_of c.args.script.now) in
    let now = session_of c.loop-line.session in
    let here = answer now c.loop-line.number (line_of field_of c.in-Some.line.now) in
    let next : session_of c.write_line.new.session ≡ here.session = c.in_ok-refused.ensures.session in
    let number = c.loop-line.number + 1 in
    let rest = output field_of here.session number c.next.new.self in
    let rest_is : output field_of here.session number c.next.new.self ≡ output field_of (session_of c.write_line.new.session) number c.next.new.self = ap (λ (s : Session). output field_of s number c.next.new.self) (sym next) in
    let room_before : HasRoom (sink.room c.args.sink.now) (length whole) → HasRoom (sink.room c.loop-line.sink) (length (here.text ++ rest)) = λ has. subst (λ lines. HasRoom (sink.room c.loop-line.sink) (length (output field_of now c.loop-line.number lines))) c.in-Some.ensures.steps (inv.room has) in
    record {
      count = search rules;
      refused = refused_more c.loop-line.refused c.in_ok-refused.field-0 here.refused (has_refusal field_of (session_of c.write_line.new.session) number c.next.new.self) (has_refusal field_of here.session number c.next.new.self) _ c.in_ok-refused.ensures.refused (ap (λ (s : Session). has_refusal field_of s number c.next.new.self) next) (subst (λ lines. (c.loop-line.refused || has_refusal field_of now c.loop-line.number lines) ≡ has_refusal field_of (session_of c.args.session.now) 1 (lines_of c.args.script.now)) c.in-Some.ensures.steps inv.refused);
      written = subst (IsWrittenTo (sink.written c.args.sink.now) (sink.written c.write_line.new.sink) whole) rest_is
          (part_written (sink.written c.args.sink.now) (sink.written c.loop-line.sink) (sink.written c.write_line.new.sink) whole here.text rest
          (subst (λ lines. IsWrittenTo (sink.written c.args.sink.now) (sink.written c.loop-line.sink) whole (output field_of now c.loop-line.number lines)) c.in-Some.ensures.steps inv.written)
          c.in_ok-refused.ensures.ok);
      later = omega (arith, inv.later, c.in_ok-refused.ensures.later);
      room = λ has. subst (λ text. HasRoom (sink.room c.write_line.new.sink) (length text)) rest_is (room_behind_part (sink.room c.loop-line.sink) (sink.room c.write_line.new.sink) here.text rest (room_before has) c.in_ok-refused.ensures.room);
      no_fault = λ has. c.in_ok-refused.ensures.no_fault (room_for_part (sink.room c.loop-line.sink) here.text rest (room_before has)) ∙ inv.no_fault has;
    }

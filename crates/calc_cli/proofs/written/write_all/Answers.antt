use Rattle.std.proofs.Common.{◌∙◌, arith, rules}
use Rattle.calc_io.proofs.Rooms.{RoomFalls-trans}
use Rattle.calc_cli.specs.Runs.{GrowsWithin}
use Rattle.calc_cli.proofs.Pieces.{at_error, written_before, written_more, room_for_rest}
use Rattle.calc_cli.proofs.written.write_all.Goals as goal

pub returns-in_err-written-clause-err : goal.returns-in_err-written-clause-err
returns-in_err-written-clause-err g c =
    let sink = g.K.Sink in
    at_error c.from_residual.result (GrowsWithin (sink.written c.args.sink.now) (sink.written c.write.new.self) c.args.bytes.now)
    (written_before (sink.written c.args.sink.now) (sink.written c.loop-written.sink) (sink.written c.write.new.self) c.args.bytes.now c.loop-written.written c.loop-written.invariant.appended c.in_err-written.ensures.bytes)

pub loop-written-preserved : goal.loop-written-preserved
loop-written-preserved g c =
    let sink = g.K.Sink in
    let inv = c.loop-written.invariant in
    record {
      within = search rules;
      appended = written_more (sink.written c.args.sink.now) (sink.written c.loop-written.sink) (sink.written c.write.new.self) c.args.bytes.now c.loop-written.written c.in_ok-written.field-0 inv.appended c.in_ok-written.ensures.bytes;
      later = omega (arith, inv.later, c.in_ok-written.ensures.later);
      room = RoomFalls-trans (sink.room c.args.sink.now) (sink.room c.loop-written.sink) (sink.room c.write.new.self) c.loop-written.written c.in_ok-written.field-0 inv.room c.in_ok-written.ensures.room;
      no_fault = λ has. c.in_ok-written.ensures.no_fault (room_for_rest (sink.room c.args.sink.now) (sink.room c.loop-written.sink) c.args.bytes.now c.loop-written.written inv.within has inv.room) ∙ inv.no_fault has;
    }

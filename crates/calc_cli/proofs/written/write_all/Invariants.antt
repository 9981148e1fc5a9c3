use Rattle.std.proofs.Common.{◌≡◌, ◌≤◌, ◌-◌, length, take}
use Rattle.std.specs.Io.KnownBytes.{Appends}
use Rattle.calc_io.specs.Sink.{HasRoom, RoomFalls}
use Rattle.calc_cli.proofs.written.write_all.Given as goal

-- the bytes so far are written
abbrev pub invariant-loop-written : goal.invariant-loop-written
invariant-loop-written g l =
    let sink = g.K.Sink in
    record {
      within : l.written ≤ length l.bytes;
      appended : Appends (sink.written l.initial.sink) (sink.written l.sink) (take l.written l.bytes);
      later : sink.faults l.initial.sink ≤ sink.faults l.sink;
      room : RoomFalls (sink.room l.initial.sink) (sink.room l.sink) l.written;
      no_fault : HasRoom (sink.room l.initial.sink) (length l.bytes) → sink.faults l.sink ≡ sink.faults l.initial.sink;
    }

abbrev pub decreases-loop-written : goal.decreases-loop-written
decreases-loop-written g l = length l.bytes - l.written

use Rattle.std.proofs.Common.{◌≡◌, ◌≤◌, ◌+◌, ◌||◌, length}
use Rattle.calc_io.specs.Sink.{HasRoom}
use Rattle.byte_cuts.specs.Lines.{lines_of}
use Rattle.formula_reader.specs.Fields.{field_of}
use Rattle.calc_cli.specs.Output.{has_refusal, output}
use Rattle.calc_cli.specs.Sessions.{session_of}
use Rattle.calc_cli.proofs.Progress.{IsWrittenTo}
use Rattle.calc_cli.proofs.output.write_output.Given as goal

-- what the lines so far write is written
abbrev pub invariant-loop-line : goal.invariant-loop-line
invariant-loop-line g l =
    let sink = g.K.Sink in
    let first = session_of l.initial.session in
    let now = session_of l.session in
    let whole = output field_of first 1 (lines_of l.script) in
    record {
      count : l.number + length l.line-iterator ≡ 1 + length (lines_of l.script);
      refused : (l.refused || has_refusal field_of now l.number l.line-iterator) ≡ has_refusal field_of first 1 (lines_of l.script);
      written : IsWrittenTo (sink.written l.initial.sink) (sink.written l.sink) whole (output field_of now l.number l.line-iterator);
      later : sink.faults l.initial.sink ≤ sink.faults l.sink;
      room : HasRoom (sink.room l.initial.sink) (length whole) → HasRoom (sink.room l.sink) (length (output field_of now l.number l.line-iterator));
      no_fault : HasRoom (sink.room l.initial.sink) (length whole) → sink.faults l.sink ≡ sink.faults l.initial.sink;
    }

use Rattle.std.proofs.Common.{◌≡◌, ◌≤◌, ◌+◌, ◌-◌, length, IsTrue}
use Rattle.std.specs.Io.KnownBytes.{Consumes, Keeps}
use Rattle.calc_cli.specs.Inputs.{left_of, other}
use Rattle.calc_cli.proofs.input_bytes.read_all.Given as goal

-- the bytes so far are those that the input lost
abbrev pub invariant-pieces : goal.invariant-pieces
invariant-pieces g l =
    let desk = g.D.Desk in
    record {
      within : length l.bytes.items ≤ l.limit + 1;
      consumed : Consumes (left_of l.input (desk.book_left l.initial.desk) (desk.script_left l.initial.desk)) (left_of l.input (desk.book_left l.desk) (desk.script_left l.desk)) l.bytes.items;
      other : Keeps (left_of (other l.input) (desk.book_left l.initial.desk) (desk.script_left l.initial.desk)) (left_of (other l.input) (desk.book_left l.desk) (desk.script_left l.desk));
      later : desk.faults l.initial.desk ≤ desk.faults l.desk;
      no_fault : IsTrue (desk.calm l.initial.desk) → desk.faults l.desk ≡ desk.faults l.initial.desk;
      same_calm : desk.calm l.desk ≡ desk.calm l.initial.desk;
    }

abbrev pub decreases-pieces : goal.decreases-pieces
decreases-pieces g l = l.limit + 1 - length l.bytes.items

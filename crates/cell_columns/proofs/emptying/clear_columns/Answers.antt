use Rattle.std.proofs.Common.{◌≡◌, ◌+◌, sym, ap, ◌∙◌, arith}
use Rattle.cell_columns.specs.Cells.{cells_of}
use Rattle.cell_columns.specs.Emptied.{without_rows}
use Rattle.cell_columns.specs.Lent.{slots_of}
use Rattle.cell_columns.proofs.Rooms.{room_behind, room_here, without_more, without_none}
use Rattle.cell_columns.proofs.emptying.clear_columns.Goals as goal

pub loop-number-init : goal.loop-number-init
loop-number-init c = record {
  are = c.requires.are;
  cells = sym (without_none c.args.from c.args.first c.args.last (cells_of c.args.codes.now (slots_of c.args.columns.now.items)));
  room = c.requires.room;
}

pub clear_column-left-requires-clause-are : goal.clear_column-left-requires-clause-are
clear_column-left-requires-clause-are c = c.loop-number.invariant.are

pub clear_column-left-requires-clause-room : goal.clear_column-left-requires-clause-room
clear_column-left-requires-clause-room c = room_here c.loop-number.columns.items c.loop-number.groups.items c.loop-number.number c.args.behind c.loop-number-test.true c.loop-number.invariant.room

pub loop-number-preserved : goal.loop-number-preserved
loop-number-preserved c = record {
  are = c.clear_column-left.ensures.are;
  cells =
      c.clear_column-left.ensures.cells
      ∙ ap (without_rows c.loop-number.number (c.loop-number.number + 1) c.args.first c.args.last) c.loop-number.invariant.cells
      ∙ without_more c.args.from c.loop-number.number c.args.first c.args.last c.loop-number.auto.number (cells_of c.args.codes.now (slots_of c.args.columns.now.items));
  room = room_behind c.loop-number.columns.items c.clear_column-left.new.columns.items c.loop-number.groups.items c.clear_column-left.new.groups.items c.loop-number.number c.args.behind c.loop-number.invariant.room c.clear_column-left.ensures.other_columns c.clear_column-left.ensures.other_groups;
}

pub returns-clause-are : goal.returns-clause-are
returns-clause-are c = c.loop-number.invariant.are

pub returns-clause-cells : goal.returns-clause-cells
returns-clause-cells c =
    let all : c.loop-number.number ≡ c.args.behind = omega (arith, c.loop-number-test.false, c.loop-number.auto.number-end c.requires.order) in
    c.loop-number.invariant.cells
    ∙ ap (λ n. without_rows c.args.from n c.args.first c.args.last (cells_of c.args.codes.now (slots_of c.args.columns.now.items))) all

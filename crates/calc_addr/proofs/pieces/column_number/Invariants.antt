use Rattle.std.proofs.Common.{◌≡◌, true, min, ◌-◌, ◌^◌, take}
use Rattle.std.specs.Char.{is_ascii_alphabetic}
use Rattle.std.specs.List.{list_all}
use Rattle.calc_addr.specs.Letters.{column_number}
use Rattle.calc_addr.proofs.pieces.column_number.Given as goal

abbrev pub invariant-loop-letter : goal.invariant-loop-letter
invariant-loop-letter l = record {
  all : list_all is_ascii_alphabetic (take l.letter-index l.text) ≡ true;
  value : l.number ≡ min (column_number (take l.letter-index l.text)) (2 ^ 32 - 1);
}

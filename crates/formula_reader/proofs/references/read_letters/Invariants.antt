use Rattle.std.proofs.Common.{◌≡◌, true, min, ◌^◌, take}
use Rattle.std.specs.Char.{is_ascii_alphabetic}
use Rattle.std.specs.List.{list_all}
use Rattle.calc_addr.specs.Letters.{column_number}
use Rattle.formula_reader.proofs.references.read_letters.Given as goal

abbrev pub invariant-loop-count : goal.invariant-loop-count
invariant-loop-count l = record {
  all : list_all is_ascii_alphabetic (take l.count l.bytes) ≡ true;
  value : l.number ≡ min (column_number (take l.count l.bytes)) (10 ^ 8);
}

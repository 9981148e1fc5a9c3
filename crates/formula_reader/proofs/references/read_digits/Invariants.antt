use Rattle.std.proofs.Common.{◌≡◌, true, min, ◌^◌, take}
use Rattle.std.specs.Char.{is_ascii_digit}
use Rattle.std.specs.List.{list_all}
use Rattle.std.specs.Str.Parse.{digits_value}
use Rattle.formula_reader.proofs.references.read_digits.Given as goal

abbrev pub invariant-loop-count : goal.invariant-loop-count
invariant-loop-count l = record {
  all : list_all is_ascii_digit (take l.count l.bytes) ≡ true;
  value : l.number ≡ min (digits_value 10 (take l.count l.bytes)) (10 ^ 8);
}

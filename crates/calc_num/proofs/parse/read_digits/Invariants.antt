use Rattle.std.proofs.Common.{◌≡◌, ◌+◌, ◌^◌, min, take, drop}
use Rattle.std.specs.Char.{is_ascii_digit}
use Rattle.std.specs.List.{prefix_len}
use Rattle.calc_num.specs.Spelling.{digits_number}
use Rattle.calc_num.proofs.parse.read_digits.Given as goal

abbrev pub invariant-loop-count : goal.invariant-loop-count
invariant-loop-count l = record {
  count : prefix_len is_ascii_digit l.text ≡ l.count + prefix_len is_ascii_digit (drop l.count l.text);
  number : l.number ≡ min (digits_number (take l.count l.text)) (10 ^ 18);
}

use Rattle.std.proofs.Common.{◌≡◌, ◌^◌, min, take}
use Rattle.calc_num.specs.Spelling.{digits_number}
use Rattle.calc_num.proofs.parse.bounded_number.Given as goal

abbrev pub invariant-loop-digit : goal.invariant-loop-digit
invariant-loop-digit l = l.number ≡ min (digits_number (take l.digit-index l.digits)) (10 ^ 20)

use Rattle.std.proofs.Common.{◌≡◌, ◌+◌, ◌≤◌, eqb, length, take}
use Rattle.std.specs.List.{suffix_len}
use Rattle.calc_num.proofs.print.count_before_zeros.Given as goal

abbrev pub invariant-loop-count : goal.invariant-loop-count
invariant-loop-count l =
    (l.count ≤ length l.digits) × (l.count + suffix_len (λ digit. eqb digit 48) l.digits ≡ length l.digits + suffix_len (λ digit. eqb digit 48) (take l.count l.digits))

abbrev pub decreases-loop-count : goal.decreases-loop-count
decreases-loop-count l = l.count

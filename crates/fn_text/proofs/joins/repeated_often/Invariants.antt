-- The text stands there so many times as there were turns.
use Rattle.std.proofs.Common.{◌≡◌}
use Rattle.fn_text.proofs.Repeating.{times}
use Rattle.fn_text.proofs.joins.repeated_often.Given as goal

abbrev pub invariant-loop : goal.invariant-loop
invariant-loop l = l.whole ≡ times l.counter l.words

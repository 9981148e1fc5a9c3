-- The characters so far are taken off.
use Rattle.fn_text.proofs.Splitting.{IsPast}
use Rattle.fn_text.proofs.characters.behind.Given as goal

abbrev pub invariant-loop : goal.invariant-loop
invariant-loop l = IsPast l.text l.counter l.rest

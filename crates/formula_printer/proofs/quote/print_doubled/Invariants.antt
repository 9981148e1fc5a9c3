use Rattle.std.proofs.Common.{length}
use Rattle.formula_printer.proofs.Quotes.{IsPrinting}
use Rattle.formula_printer.proofs.quote.print_doubled.Given as goal

abbrev pub invariant-loop-at : goal.invariant-loop-at
invariant-loop-at l = IsPrinting l.fn.out.items l.out.items l.rest l.text

abbrev pub decreases-loop-at : goal.decreases-loop-at
decreases-loop-at l = length l.rest

use Rattle.std.proofs.Common.{refl, sym}
use Rattle.formula_printer.proofs.Quotes.{past_quote, to_end}
use Rattle.formula_printer.proofs.quote.print_doubled.Goals as goal

pub loop-at-preserved : goal.loop-at-preserved
loop-at-preserved c =
    past_quote _ _ _ _ _ _ _ _ c.loop-at.invariant (sym c.in-Some.ensures) c.in_ok-extend_from_slice.ensures.items c.in_ok-extend_from_slice-2.ensures.items refl

pub returns-clause-ok : goal.returns-clause-ok
returns-clause-ok c =
    to_end c.extend_from_slice-2.result _ _ _ _ _ c.loop-at.invariant (sym c.in_default.ensures) c.extend_from_slice-2.ensures.items

use Rattle.calc_model.specs.Printed.{printed_tree}
use Rattle.formula_printer.proofs.Growing.{begins_more, on_err}
use Rattle.formula_printer.proofs.Joining.{joined_more}
use Rattle.formula_printer.proofs.tree.+printing.Goals as goal

pub print_args-returns-in_err-print_prefixed-clause-kept : goal.print_args-returns-in_err-print_prefixed-clause-kept
print_args-returns-in_err-print_prefixed-clause-kept t c =
    on_err c.from_residual.result _ (begins_more _ _ c.loop-at.out.items _ c.loop-at.invariant c.in_err-print_prefixed.ensures.kept)

pub print_args-loop-at-preserved : goal.print_args-loop-at-preserved
print_args-loop-at-preserved t c =
    joined_more printed_tree 59 c.loop-at.at c.args.args.now c.index-args-at.result _ c.loop-at.out.items _ _ c.loop-at-test.true c.index-args-at.is c.loop-at.invariant c.separator_before.ensures c.in_ok-print_prefixed.ensures.ok

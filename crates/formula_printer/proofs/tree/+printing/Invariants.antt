use Rattle.std.proofs.Common.{◌≡◌, map, ◌++◌, take}
use Rattle.std.specs.List.{join_with_byte}
use Rattle.calc_model.specs.Printed.{printed_tree}
use Rattle.formula_printer.proofs.tree.+printing.Given as goal

abbrev pub invariant-print_args-loop-at : goal.invariant-print_args-loop-at
invariant-print_args-loop-at l =
    l.out.items ≡ l.fn.out.items ++ join_with_byte 59 (map printed_tree (take l.at l.args))

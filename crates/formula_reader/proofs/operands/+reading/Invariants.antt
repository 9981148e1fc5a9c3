-- How operands end, and what their loops keep: what is still to be read gives what the whole gives.
use Rattle.formula_reader.proofs.operands.+reading.Given as goal
use Rattle.std.proofs.Common.{◌≡◌, ◌+◌, ◌*◌, ◌-◌}
use Rattle.formula_reader.specs.Operators.{level_of}
use Rattle.formula_reader.specs.Unread.{repeat, unread_of}
use Rattle.formula_reader.specs.Operands.{arg_behind, args_at, comparison_of, inside_of, operands_at, operator_behind}

abbrev pub decreases-comparison : goal.decreases-comparison
decreases-comparison l = 1024 * l.depth

abbrev pub decreases-operands : goal.decreases-operands
decreases-operands l = 1024 * l.depth + 2 * l.level + 6

abbrev pub decreases-attach : goal.decreases-attach
decreases-attach l = 1024 * l.depth + 2 * level_of l.operator + 5

abbrev pub decreases-prefixed : goal.decreases-prefixed
decreases-prefixed l = 1024 * l.depth + 5

abbrev pub decreases-signed_primary : goal.decreases-signed_primary
decreases-signed_primary l = 1024 * l.depth + 4

abbrev pub decreases-primary : goal.decreases-primary
decreases-primary l = 1024 * l.depth + 3

abbrev pub decreases-word : goal.decreases-word
decreases-word l = 1024 * l.depth + 2

abbrev pub decreases-arguments : goal.decreases-arguments
decreases-arguments l = 1024 * l.depth + 1

abbrev pub invariant-operands-loop : goal.invariant-operands-loop
invariant-operands-loop l =
    repeat (operator_behind (operands_at (inside_of l.depth)) l.level) (l.initial.cursor.tokens - l.counter) l.tree (unread_of l.cursor)
    ≡ operands_at (inside_of l.depth) l.level (unread_of l.fn.cursor)

abbrev pub invariant-arguments-loop : goal.invariant-arguments-loop
invariant-arguments-loop l =
    repeat (arg_behind (comparison_of l.depth)) (30 - l.counter) l.args (unread_of l.cursor)
    ≡ args_at (inside_of l.depth) (unread_of l.fn.cursor)

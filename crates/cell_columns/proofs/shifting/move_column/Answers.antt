use Rattle.std.proofs.Common.{None, ap, sym, ◌∙◌}
use Rattle.cell_columns.specs.Shifted.{rows_moved}
use Rattle.cell_columns.specs.Uses.{codes_in}
use Rattle.cell_columns.proofs.ColumnsMoved.{codes_moved, nothing_moves}
use Rattle.cell_columns.proofs.shifting.move_column.Goals as goal

pub returns-then-used-eq0-clause-ok : goal.returns-then-used-eq0-clause-ok
returns-then-used-eq0-clause-ok c = nothing_moves c.args.change c.requires.change c.args.column.now.slots c.requires.long (sym c.used.ensures ∙ c.if-used-eq0.true)

pub returns-clause-grouped : goal.returns-clause-grouped
returns-clause-grouped c =
    c.move_codes.ensures
    ∙ ap (rows_moved c.args.change None) (c.reserve.ensures.entries ∙ c.requires.grouped)
    ∙ sym (codes_moved c.args.change c.args.column.now.slots)
    ∙ sym (ap codes_in c.in_ok-move_slots.ensures.ok)

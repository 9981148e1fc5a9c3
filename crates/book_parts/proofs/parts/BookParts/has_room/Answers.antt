use Rattle.std.proofs.Common.{sym, ◌∙◌, arith}
use Rattle.calc_model.specs.declared.limits.TheConstants.{MOST_CELLS}
use Rattle.book_parts.proofs.Lengths.{fits_at, fits_below, fits_empty}
use Rattle.book_parts.proofs.parts.BookParts.has_room.Goals as goal

pub returns-then-not-is_held : goal.returns-then-not-is_held
returns-then-not-is_held c =
    fits_empty c.args.self.now.cells c.args.cell c.args.content.now MOST_CELLS (sym c.is_held.ensures ∙ c.if-not-is_held.true) c.len-len.ensures.book.cells_in_limit

pub returns-then-len-lt-MOST_CELLS : goal.returns-then-len-lt-MOST_CELLS
returns-then-len-lt-MOST_CELLS c =
    fits_below c.args.self.now.cells c.args.cell c.args.content.now MOST_CELLS (omega (arith, c.len-len.ensures.cells, c.if-len-lt-MOST_CELLS.true))

pub returns : goal.returns
returns c =
    c.is_held-2.ensures
    ∙ fits_at c.args.self.now c.args.cell c.args.content.now c.len-len.ensures.book.cells_in_order c.len-len.ensures.book.cells_held (sym c.is_held.ensures ∙ c.if-not-is_held.false) MOST_CELLS
    c.len-len.ensures.book.cells_in_limit (omega (arith, c.len-len.ensures.cells, c.if-len-lt-MOST_CELLS.false))

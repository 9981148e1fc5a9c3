use Rattle.std.proofs.Common.{◌≡◌, ◌+◌, ◌≤◌, List, length, true, sym, ap, subst, ◌∙◌, arith}
use Rattle.calc_addr.specs.Places.{IsPlace, Place, column_places}
use Rattle.calc_model.specs.declared.content.Content.{Content}
use Rattle.calc_model.specs.Books.{content_at, is_held, with_content}
use Rattle.calc_model.specs.CellEdits.{CellEntries, moved_content, with_entries}
use Rattle.calc_model.proofs.BooksKept.{longer_by_one}
use Rattle.formula_code.specs.Codes.{Codes}
use Rattle.block_column.specs.declared.slot.Slot.{Slot}
use Rattle.block_column.specs.Kinds.{is_filled}
use Rattle.cell_columns.specs.Cells.{Column, cells_of, cells_only, content_of, slot_at}
use Rattle.cell_columns.specs.Filled.{FitsRows, moved_entries, repeated}
use Rattle.cell_columns.specs.Lent.{slots_of}
use Rattle.cell_columns.proofs.FilledAlike.{filled_here, fits_rows, held_here, moved_held, repeated_is, with_first, with_none}
use Rattle.cell_columns.proofs.Told.{holds}
use Rattle.cell_columns.proofs.columns.CellColumns.fill_alike.Goals as goal

pub returns-then-end-cell-clause-cells : goal.returns-then-end-cell-clause-cells
returns-then-end-cell-clause-cells c =
    let at : c.in_ok-end.end ≡ c.args.cell.row = c.if-end-cell.true ∙ ap (λ (q : Place). q.row) c.cell.view_is in
    c.in_ok-set_moved.ensures
    ∙ with_none c.args.self.now c.args.from c.args.cell c.args.content.now (moved_held c.args.from c.args.cell c.args.content.now c.requires.held)
    ∙ ap (λ row. with_entries c.args.self.now (moved_entries c.args.from c.args.content.now (column_places c.args.cell.sheet c.args.cell.col c.args.cell.row row))) (sym at)

-- what the cell holds, by its slot
here : (codes : Codes) (columns : List Column) (cell from : Place) → IsPlace cell → (content : Content) → is_held content ≡ true → (old : CellEntries) → cells_of codes columns ≡ with_content old cell (moved_content from cell content) → content_of codes cell (slot_at columns cell) ≡ moved_content from cell content
here codes columns cell from is content held old set =
    sym (holds codes columns cell is)
    ∙ ap (λ (es : CellEntries). content_at (cells_only es) cell) set
    ∙ held_here old cell (moved_content from cell content) (moved_held from cell content held)

pub repeat_below-requires-clause-held : goal.repeat_below-requires-clause-held
repeat_below-requires-clause-held c =
    ap is_filled (c.in_ok-slot.ensures.slot ∙ ap (λ cs. slot_at (slots_of cs) c.args.cell) c.deref.ensures.value)
    ∙ filled_here c.self.inside.table (slots_of c.self.inside.columns.items) c.self.invariant.sheets c.args.cell c.in_ok-slot.ensures.place c.args.from c.args.content.now c.in_ok-end.end c.in_ok-end.ensures.formed c.in_ok-end.ensures.alike (here c.self.inside.table (slots_of c.self.inside.columns.items) c.args.cell c.args.from c.in_ok-slot.ensures.place c.args.content.now c.requires.held c.args.self.now (c.self.view_is ∙ c.in_ok-set_moved.ensures)) c.requires.held

pub repeat_below-requires-clause-fits : goal.repeat_below-requires-clause-fits
repeat_below-requires-clause-fits c =
    subst (λ (x : Slot). FitsRows c.self.inside.table c.args.cell (c.args.cell.row + 1) c.in_ok-end.end x) (sym (c.in_ok-slot.ensures.slot ∙ ap (λ cs. slot_at (slots_of cs) c.args.cell) c.deref.ensures.value))
    (fits_rows c.self.inside.table (slots_of c.self.inside.columns.items) c.self.invariant.sheets c.args.cell c.in_ok-slot.ensures.place c.args.from c.args.content.now c.in_ok-end.end c.in_ok-end.ensures.formed c.in_ok-end.ensures.alike (here c.self.inside.table (slots_of c.self.inside.columns.items) c.args.cell c.args.from c.in_ok-slot.ensures.place c.args.content.now c.requires.held c.args.self.now (c.self.view_is ∙ c.in_ok-set_moved.ensures)))

pub repeat_below-requires-clause-room : goal.repeat_below-requires-clause-room
repeat_below-requires-clause-room c =
    omega (
      arith,
      c.self.invariant.counted,
      ap (λ (es : CellEntries). length es) (c.self.view_is ∙ c.in_ok-set_moved.ensures),
      longer_by_one c.args.self.now c.args.cell (moved_content c.args.from c.args.cell c.args.content.now),
      c.requires.room,
      c.in_ok-end.ensures.from,
      c.in_ok-end.ensures.to,
    )

pub returns-clause-cells : goal.returns-clause-cells
returns-clause-cells c =
    let es : CellEntries = cells_of c.self.inside.table (slots_of c.self.inside.columns.items) in
    let content : Content = c.args.content.now in
    let slot : c.in_ok-slot.slot ≡ slot_at (slots_of c.self.inside.columns.items) c.args.cell = c.in_ok-slot.ensures.slot ∙ ap (λ cs. slot_at (slots_of cs) c.args.cell) c.deref.ensures.value in
    let below : c.args.cell.row + 1 ≤ c.in_ok-end.end = omega (arith, c.in_ok-end.ensures.from, c.if-end-cell.false, ap (λ (q : Place). q.row) c.cell.view_is) in
    let moved = here c.self.inside.table (slots_of c.self.inside.columns.items) c.args.cell c.args.from c.in_ok-slot.ensures.place content c.requires.held c.args.self.now (c.self.view_is ∙ c.in_ok-set_moved.ensures) in
    c.in_ok-self-inside.ensures.cells
    ∙ ap (λ (x : Slot). with_entries es (repeated c.self.inside.table c.args.cell (c.args.cell.row + 1) c.in_ok-end.end x)) slot
    ∙ ap (with_entries es) (repeated_is c.self.inside.table (slots_of c.self.inside.columns.items) c.self.invariant.sheets c.args.cell c.in_ok-slot.ensures.place c.args.from content c.in_ok-end.end c.in_ok-end.ensures.formed c.in_ok-end.ensures.alike moved below (omega (arith, c.in_ok-end.ensures.to, c.requires.to)))
    ∙ ap (λ (held : CellEntries). with_entries held (moved_entries c.args.from content (column_places c.args.cell.sheet c.args.cell.col (c.args.cell.row + 1) c.in_ok-end.end))) (c.self.view_is ∙ c.in_ok-set_moved.ensures)
    ∙ with_first c.args.self.now c.args.from c.args.cell content c.in_ok-end.end (moved_held c.args.from c.args.cell content c.requires.held) c.in_ok-end.ensures.from

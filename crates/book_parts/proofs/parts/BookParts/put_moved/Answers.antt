use Rattle.std.proofs.Common.{◌≡◌, ℕ, ◌+◌, ◌≤◌, List, length, length-append, sym, ap, subst, ◌∙◌, arith}
use Rattle.calc_addr.specs.Places.{Place, Rectangle, column_places}
use Rattle.calc_model.specs.CellEdits.{CellEntries, with_entries}
use Rattle.cell_columns.specs.Filled.{moved_entries}
use Rattle.book_parts.proofs.Filled.{column_first, columns_from, entries_long, inserts_few, rows_long, then_more}
use Rattle.book_parts.proofs.parts.BookParts.put_moved.Goals as goal

pub put_rows-requires-clause-room : goal.put_rows-requires-clause-room
put_rows-requires-clause-room c =
    let area : Rectangle = c.args.area in
    let col : ℕ = c.loop-col.col in
    let order : col ≤ area.last_col = omega (arith, c.loop-col-test.true, ap (λ (a : Rectangle). a.last_col) c.area.view_is) in
    omega (
      arith,
      ap length (column_first area.sheet area.first_row area.last_row col area.last_col order),
      length-append (column_places area.sheet col area.first_row area.last_row) (columns_from area.sheet area.first_row area.last_row (col + 1) area.last_col),
      rows_long area.sheet col area.first_row area.last_row,
      ap (λ (a : Rectangle). a.first_row) c.area.view_is,
      ap (λ (a : Rectangle). a.last_row) c.area.view_is,
      c.loop-col.invariant.room,
    )

pub loop-col-preserved : goal.loop-col-preserved
loop-col-preserved c =
    let now = c.loop-col.invariant in
    let area : Rectangle = c.args.area in
    let col : ℕ = c.loop-col.col in
    let from = c.args.from in
    let content = c.args.content.now in
    let held : CellEntries = c.loop-col.self.cells in
    let here : List Place = column_places area.sheet col area.first_row area.last_row in
    let behind : List Place = columns_from area.sheet area.first_row area.last_row (col + 1) area.last_col in
    let order : col ≤ area.last_col = omega (arith, c.loop-col-test.true, ap (λ (a : Rectangle). a.last_col) c.area.view_is) in
    let parted = column_first area.sheet area.first_row area.last_row col area.last_col order in
    let put : c.put_rows.new.self.cells ≡ with_entries held (moved_entries from content here) =
    subst (λ (a : Rectangle). c.put_rows.new.self.cells ≡ with_entries held (moved_entries from content (column_places a.sheet col a.first_row a.last_row))) c.area.view_is c.in_ok-put_rows.ensures.cells in
    record {
      so_far =
          ap (λ (es : CellEntries). with_entries es (moved_entries from content behind)) put
          ∙ sym (then_more held from content here behind)
          ∙ ap (λ (ps : List Place). with_entries held (moved_entries from content ps)) (sym parted)
          ∙ now.so_far;
      room =
          omega (
            arith,
            ap (λ (es : CellEntries). length es) put,
            inserts_few (moved_entries from content here) held,
            entries_long from content here,
            ap length parted,
            length-append here behind,
            now.room,
          );
      names = c.in_ok-put_rows.ensures.names ∙ now.names;
      book = c.in_ok-put_rows.ensures.book;
    }

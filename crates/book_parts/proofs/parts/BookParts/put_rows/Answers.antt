use Rattle.std.proofs.Common.{◌≡◌, ℕ, ◌+◌, ◌≤◌, List, length, sym, ap, subst, ◌∙◌, arith}
use Rattle.calc_addr.specs.Places.{Place, Rows, column_places}
use Rattle.calc_model.specs.CellEdits.{CellEntries, with_entries}
use Rattle.cell_columns.specs.Filled.{moved_entries}
use Rattle.book_parts.proofs.Filled.{entries_long, inserts_few, rows_long, rows_parted, then_more}
use Rattle.book_parts.proofs.parts.BookParts.put_rows.Goals.{then-row-from_row, else-row-from_row}
use Rattle.book_parts.proofs.parts.BookParts.put_rows.Goals as goal

pub loop-row-preserved : goal.loop-row-preserved
loop-row-preserved c =
    let now = c.loop-row.invariant in
    let rows : Rows = c.args.rows in
    let row : ℕ = c.loop-row.row in
    let end : ℕ = c.in_ok-row.field-0 in
    let from = c.args.from in
    let content = c.args.content.now in
    let held : CellEntries = c.loop-row.self.cells in
    let places : ℕ → ℕ → List Place = λ first last. column_places rows.sheet rows.col first last in
    let last_is : c.rows.inside.last ≡ rows.last = ap (λ (r : Rows). r.last) c.rows.view_is in
    let low : row ≤ end = c.in_ok-row.ensures.from in
    let high : end ≤ rows.last = elim c.if-row-from_row.branch [
      | then-row-from_row w ↦ omega (arith, c.in_ok-row.ensures.to, w.last-is, w.min-last.ensures, last_is)
      | else-row-from_row w ↦ omega (arith, c.in_ok-row.ensures.to, w.last-is, last_is)
    ] in
    let put : c.put_alike.new.self.cells ≡ with_entries held (moved_entries from content (places row end)) =
    subst (λ (r : Rows). c.put_alike.new.self.cells ≡ with_entries held (moved_entries from content (column_places r.sheet r.col row end))) c.rows.view_is c.in_ok-row.ensures.cells in
    record {
      from = omega (arith, now.from, low);
      to = omega (arith, high);
      so_far =
          ap (λ (es : CellEntries). with_entries es (moved_entries from content (places (end + 1) rows.last))) put
          ∙ sym (then_more held from content (places row end) (places (end + 1) rows.last))
          ∙ ap (λ (ps : List Place). with_entries held (moved_entries from content ps)) (sym (rows_parted rows.sheet rows.col row end rows.last low high))
          ∙ now.so_far;
      room =
          omega (
            arith,
            ap (λ (es : CellEntries). length es) put,
            inserts_few (moved_entries from content (places row end)) held,
            entries_long from content (places row end),
            rows_long rows.sheet rows.col row end,
            now.room,
            low,
            high,
          );
      names = c.in_ok-row.ensures.names ∙ now.names;
      book = c.in_ok-row.ensures.book;
    }

use Rattle.std.proofs.Common.{◌≡◌, ◌<◌, ◌+◌, ap, sym, ◌∙◌, arith}
use Rattle.std.specs.BTreeMap.{insert_entry}
use Rattle.calc_addr.specs.Places.{Place, place_cmp}
use Rattle.calc_model.specs.CellEdits.{CellEntries, with_entries}
use Rattle.book_parts.specs.GeneratedColumns.{content_of, entries_of, place_of}
use Rattle.book_parts.proofs.ColumnEntries.{first_entry}
use Rattle.book_parts.proofs.generated.put_column.Goals as goal

pub loop-row-preserved : goal.loop-row-preserved
loop-row-preserved c =
    let column = c.args.column in
    let row = c.loop-row.row in
    let within : row < c.args.rows + 1 = omega arith in
    let put : c.add.new.cells ≡ insert_entry place_cmp c.loop-row.cells (place_of column row) (content_of column row) =
    c.in_ok-add.ensures.cells ∙ ap (λ (q : Place). insert_entry place_cmp c.loop-row.cells q c.in_ok-content.content) c.cell.ensures
    ∙ ap (insert_entry place_cmp c.loop-row.cells (place_of column row)) c.in_ok-content.ensures in
    record {
      so_far =
          ap (λ (es : CellEntries). with_entries es (entries_of column (row + 1) c.args.rows)) put
          ∙ ap (with_entries c.loop-row.cells) (sym (first_entry column row c.args.rows within))
          ∙ c.loop-row.invariant.so_far;
      longer = omega (arith, c.in_ok-add.ensures.longer, c.loop-row.invariant.longer);
    }

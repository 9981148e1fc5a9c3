use Rattle.std.proofs.Common.{◌+◌, ◌-◌, ℕ, cond, [], ap, ◌∙◌}
use Rattle.calc_addr.specs.Places.{Place, column_places}
use Rattle.calc_model.specs.declared.content.Content.{Content}
use Rattle.calc_model.specs.Books.{content_at, is_held}
use Rattle.calc_model.specs.CellEdits.{CellEntries, equal_place}
use Rattle.calc_model.proofs.Areas.{inside}
use Rattle.cell_columns.specs.Cells.{cells_only}
use Rattle.cell_columns.specs.Filled.{moved_entries}
use Rattle.book_parts.proofs.Alike.{piece_copied}
use Rattle.book_parts.proofs.copies.copied_piece.Goals as goal

pub returns : goal.returns
returns c =
    let book = cells_only c.args.cells.now in
    let from : Place = c.args.from in
    let at : Place = equal_place c.args.area c.args.to from in
    let entries : Place → Content → ℕ → CellEntries = λ q x row. cond (is_held x) (moved_entries from x (column_places q.sheet q.col q.row (q.row + (c.args.last - row)))) [] in
    ap (λ q. entries q c.in_ok-content.content c.from.inside.row) (c.at.view_is ∙ c.equal_place-at.ensures)
    ∙ ap (λ x. entries at x c.from.inside.row) c.in_ok-content.ensures
    ∙ ap (λ (q : Place). entries at (content_at book from) q.row) c.from.view_is
    ∙ piece_copied book c.args.area c.args.to from c.args.last c.requires.alike (inside c.args.area from c.requires.inside).row_from c.requires.order

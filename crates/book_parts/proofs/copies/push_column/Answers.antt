use Rattle.std.proofs.Common.{ℕ, ◌+◌, ◌≤◌, List, [], ◌∷◌, ◌++◌, append-nil, sym, ap, ◌∙◌, arith}
use Rattle.std.proofs.lemmas.Grind.{flat_map-append}
use Rattle.std.proofs.lemmas.List.{append_assoc}
use Rattle.calc_addr.specs.Places.{Place, Rectangle, column_places}
use Rattle.calc_model.specs.CellEdits.{CellEntries}
use Rattle.calc_model.proofs.Areas.{covered}
use Rattle.cell_columns.specs.Cells.{cells_only}
use Rattle.book_parts.specs.declared.pieces.Piece.{Piece}
use Rattle.book_parts.specs.Pieces.{all_entries, copied_cell, copied_cells, entries_of}
use Rattle.book_parts.proofs.Filled.{no_rows, rows_parted}
use Rattle.book_parts.proofs.copies.push_column.Goals as goal

pub loop-row-preserved : goal.loop-row-preserved
loop-row-preserved c =
    let now = c.loop-row.invariant in
    let area : Rectangle = c.args.area in
    let row : ℕ = c.loop-row.row in
    let last : ℕ = c.last_alike-last.result in
    let old : List Piece = c.loop-row.pieces.items in
    let piece : Piece = c.in_ok-piece.piece in
    let copied : List Place → CellEntries = copied_cells (cells_only c.args.cells.now) area c.args.to in
    let here : List Place = column_places area.sheet c.args.col row last in
    let below : List Place = column_places area.sheet c.args.col (last + 1) area.last_row in
    let last_is = ap (λ (a : Rectangle). a.last_row) c.area.view_is in
    let high : last ≤ area.last_row = omega (arith, c.last_alike-last.ensures.to, last_is) in
    record {
      from = omega (arith, now.from, c.last_alike-last.ensures.from);
      to = omega (arith, high);
      so_far =
          ap (λ ps. all_entries ps ++ copied below) c.in_ok-push.ensures.items
          ∙ ap (λ es. es ++ copied below) (flat_map-append entries_of old (piece ∷ []))
          ∙ ap (λ es. (all_entries old ++ es) ++ copied below) (append-nil (entries_of piece) ∙ c.in_ok-piece.ensures ∙ ap (λ (a : Rectangle). copied (column_places a.sheet c.args.col row last)) c.area.view_is)
          ∙ append_assoc (all_entries old) (copied here) (copied below)
          ∙ ap (λ es. all_entries old ++ es) (sym (flat_map-append (copied_cell (cells_only c.args.cells.now) area c.args.to) here below))
          ∙ ap (λ ps. all_entries old ++ copied ps) (sym (rows_parted area.sheet c.args.col row last area.last_row c.last_alike-last.ensures.from high))
          ∙ now.so_far;
    }

pub copied_piece-requires-clause-inside : goal.copied_piece-requires-clause-inside
copied_piece-requires-clause-inside c =
    covered c.args.area (record { sheet = c.area.inside.sheet; col = c.args.col; row = c.loop-row.row }) (record {
      same_sheet = ap (λ (a : Rectangle). a.sheet) c.area.view_is;
      col_from = c.requires.from;
      col_to = c.requires.behind;
      row_from = c.loop-row.invariant.from;
      row_to = omega (arith, c.loop-row-test.true, ap (λ (a : Rectangle). a.last_row) c.area.view_is);
    })

pub returns : goal.returns
returns c =
    let area : Rectangle = c.args.area in
    let past : area.last_row + 1 ≤ c.loop-row.row = omega (arith, c.loop-row-test.false, ap (λ (a : Rectangle). a.last_row) c.area.view_is) in
    sym (append-nil (all_entries c.loop-row.pieces.items))
    ∙ ap (λ ps. all_entries c.loop-row.pieces.items ++ copied_cells (cells_only c.args.cells.now) area c.args.to ps) (sym (no_rows area.sheet c.args.col c.loop-row.row area.last_row past))
    ∙ c.loop-row.invariant.so_far

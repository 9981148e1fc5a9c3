use Rattle.std.proofs.Common.{◌≡◌, true, false, cond, [], length, sym, ap, ◌∙◌, arith}
use Rattle.std.proofs.lemmas.Result.{on_ok_weaker}
use Rattle.calc_model.specs.Books.{is_held}
use Rattle.calc_model.specs.CellEdits.{CellEntries, with_entries}
use Rattle.cell_runs.specs.CellLists.{cells_of}
use Rattle.cell_columns.specs.Filled.{moved_entries}
use Rattle.book_parts.specs.declared.pieces.Piece.{Piece}
use Rattle.book_parts.specs.Pieces.{entries_of}
use Rattle.book_parts.proofs.Filled.{entries_long, rows_long}
use Rattle.book_parts.proofs.parts.BookParts.put_piece.Goals as goal

held_entries : (piece : Piece) → is_held piece.content ≡ true → entries_of piece ≡ moved_entries piece.from piece.content (cells_of piece.rows)
held_entries piece held = ap (λ b. cond b (moved_entries piece.from piece.content (cells_of piece.rows)) []) held

no_entries : (piece : Piece) → is_held piece.content ≡ false → entries_of piece ≡ []
no_entries piece none = ap (λ b. cond b (moved_entries piece.from piece.content (cells_of piece.rows)) []) none

pub put_rows-requires-clause-room : goal.put_rows-requires-clause-room
put_rows-requires-clause-room c =
    let piece : Piece = c.args.piece.now in
    let held : is_held piece.content ≡ true = sym c.is_held.ensures ∙ c.if-not-is_held.false in
    omega (
      arith,
      ap (λ (es : CellEntries). length es) (held_entries piece held),
      entries_long piece.from piece.content (cells_of piece.rows),
      rows_long piece.rows.sheet piece.rows.col piece.rows.first piece.rows.last,
      c.requires.room,
    )

pub returns-clause-cells : goal.returns-clause-cells
returns-clause-cells c =
    let piece : Piece = c.args.piece.now in
    let held : is_held piece.content ≡ true = sym c.is_held.ensures ∙ c.if-not-is_held.false in
    on_ok_weaker c.put_rows.result (λ put. put ∙ ap (with_entries c.args.self.now.cells) (sym (held_entries piece held))) c.put_rows.ensures.cells

pub returns-then-not-is_held-clause-cells : goal.returns-then-not-is_held-clause-cells
returns-then-not-is_held-clause-cells c =
    let piece : Piece = c.args.piece.now in
    let none : is_held piece.content ≡ false = sym c.is_held.ensures ∙ c.if-not-is_held.true in
    sym (ap (with_entries c.args.self.now.cells) (no_entries piece none))

use Rattle.std.proofs.Common.{◌≡◌, ◌+◌, List, ◌∷◌, drop, length, length-append, sym, ap, ◌∙◌, arith}
use Rattle.std.specs.BTreeMap.{insert_entry}
use Rattle.std.proofs.lemmas.List.Sums.{fold-append}
use Rattle.calc_addr.specs.Places.{place_cmp}
use Rattle.calc_model.specs.CellEdits.{CellEntries, with_entries}
use Rattle.book_parts.specs.declared.pieces.Piece.{Piece}
use Rattle.book_parts.specs.Pieces.{all_entries, entries_of}
use Rattle.book_parts.proofs.Filled.{inserts_few}
use Rattle.book_parts.proofs.Steps.{step}
use Rattle.book_parts.proofs.parts.BookParts.put_pieces.Goals as goal

pub put_piece-requires-clause-room : goal.put_piece-requires-clause-room
put_piece-requires-clause-room c =
    let piece : Piece = c.piece-item.result in
    let left : List Piece = drop (c.loop-piece.piece-index + 1) c.args.pieces.now in
    let next : drop c.loop-piece.piece-index c.args.pieces.now ≡ piece ∷ left = step c.args.pieces.now c.loop-piece.piece-index piece c.loop-piece-test.true c.piece-item.is in
    omega (arith, ap (λ ps. length (all_entries ps)) next, length-append (entries_of piece) (all_entries left), c.loop-piece.invariant.room)

pub loop-piece-preserved : goal.loop-piece-preserved
loop-piece-preserved c =
    let now = c.loop-piece.invariant in
    let piece : Piece = c.piece-item.result in
    let held : CellEntries = c.loop-piece.self.cells in
    let left : List Piece = drop (c.loop-piece.piece-index + 1) c.args.pieces.now in
    let next : drop c.loop-piece.piece-index c.args.pieces.now ≡ piece ∷ left = step c.args.pieces.now c.loop-piece.piece-index piece c.loop-piece-test.true c.piece-item.is in
    record {
      so_far =
          ap (λ (es : CellEntries). with_entries es (all_entries left)) c.in_ok-put_piece.ensures.cells
          ∙ sym (fold-append (λ (held : CellEntries) e. insert_entry place_cmp held e.0 e.1) held (entries_of piece) (all_entries left))
          ∙ ap (λ ps. with_entries held (all_entries ps)) (sym next)
          ∙ now.so_far;
      room =
          omega (
            arith,
            ap (λ (es : CellEntries). length es) c.in_ok-put_piece.ensures.cells,
            inserts_few (entries_of piece) held,
            ap (λ ps. length (all_entries ps)) next,
            length-append (entries_of piece) (all_entries left),
            now.room,
          );
      names = c.in_ok-put_piece.ensures.names ∙ now.names;
      book = c.in_ok-put_piece.ensures.book;
    }

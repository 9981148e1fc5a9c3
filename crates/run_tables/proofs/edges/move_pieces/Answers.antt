use Rattle.std.proofs.Common.{sym, subst, ap, ◌∙◌, arith}
use Rattle.std.proofs.lemmas.List.Elements.{All-get_or}
use Rattle.run_tables.specs.Runs.{moved}
use Rattle.run_tables.specs.Edges.{HasSmallRows}
use Rattle.run_tables.proofs.Places.{one_moved, same_front}
use Rattle.run_tables.proofs.edges.move_pieces.Goals as goal

pub moved_piece-requires : goal.moved_piece-requires
moved_piece-requires g c =
    let item = c.piece-item.result in
    let here = same_front c.loop-piece.pieces c.args.pieces.now c.loop-piece.piece-index item (omega arith) (omega arith) c.piece-item.is c.loop-piece.invariant.rest in
    let small = All-get_or (λ p. HasSmallRows (g.P.Piece.run p)) c.args.pieces.now c.loop-piece.piece-index item (omega arith) c.requires.small in
    record { small = subst (λ p. HasSmallRows (g.P.Piece.run p)) (sym here ∙ c.piece-item.is) small; place = c.requires.place }

pub loop-piece-preserved : goal.loop-piece-preserved
loop-piece-preserved g c =
    let moves = c.moved_piece.ensures ∙ ap (λ p. moved c.args.from c.args.to (g.P.Piece.run p)) (sym c.piece-item.is) in
    let step = one_moved g.P.Piece.run (moved c.args.from c.args.to) c.loop-piece.pieces c.args.pieces.now c.loop-piece.piece-index c.piece-item.result c.moved_piece.result (omega arith) (omega arith) c.piece-item.is c.loop-piece.invariant.rest moves c.loop-piece.invariant.runs in
    record { runs = step.0; rest = step.1 }

use Rattle.std.proofs.Common.{◌≡◌, take, drop, map}
use Rattle.run_tables.specs.Runs.{moved}
use Rattle.run_tables.proofs.edges.move_pieces.Given as goal

abbrev pub invariant-loop-piece : goal.invariant-loop-piece
invariant-loop-piece g l = record {
  runs : map g.P.Piece.run (take l.piece-index l.pieces) ≡ map (moved l.from l.to) (map g.P.Piece.run (take l.piece-index l.initial.pieces));
  rest : drop l.piece-index l.pieces ≡ drop l.piece-index l.initial.pieces;
}

use Rattle.std.proofs.Common.{sym, arith}
use Rattle.run_tables.proofs.Found.{found-none, found-at}
use Rattle.run_tables.proofs.search.piece_at.Goals as goal

pub returns-then-place-eq0-clause-key : goal.returns-then-place-eq0-clause-key
returns-then-place-eq0-clause-key g c =
    sym (found-none g.P.Piece.run c.args.row c.first_past-place.result c.args.table.now c.requires c.if-place-eq0.true c.first_past-place.ensures.place)

pub returns-then-last-row-clause-key : goal.returns-then-last-row-clause-key
returns-then-last-row-clause-key g c =
    let at = found-at g.P.Piece.run c.args.row c.first_past-place.result c.args.table.now c.index-table-place.result c.requires c.if-place-eq0.false c.first_past-place.ensures.within c.index-table-place.is c.first_past-place.ensures.place in
    sym (at.0.behind (omega (arith, c.last.ensures)))

pub returns-clause-key : goal.returns-clause-key
returns-clause-key g c =
    let at = found-at g.P.Piece.run c.args.row c.first_past-place.result c.args.table.now c.index-table-place.result c.requires c.if-place-eq0.false c.first_past-place.ensures.within c.index-table-place.is c.first_past-place.ensures.place in
    sym (at.0.inside (omega (arith, c.last.ensures)))

pub returns-clause-from : goal.returns-clause-from
returns-clause-from g c =
    let at = found-at g.P.Piece.run c.args.row c.first_past-place.result c.args.table.now c.index-table-place.result c.requires c.if-place-eq0.false c.first_past-place.ensures.within c.index-table-place.is c.first_past-place.ensures.place in
    at.1

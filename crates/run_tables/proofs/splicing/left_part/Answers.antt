use Rattle.std.proofs.Common.{◌≡◌, ◌<◌, ap, sym, ◌∙◌, Some, arith}
use Rattle.std.specs.Option.{option_map}
use Rattle.run_tables.specs.Edges.{up_to}
use Rattle.run_tables.proofs.Places.{before_place}
use Rattle.run_tables.proofs.splicing.left_part.Goals as goal

pub returns : goal.returns
returns g c =
    let place : 0 < c.args.place = omega arith in
    let at = before_place g.P.Piece.run c.args.table.now c.args.place c.index-table-place.result place c.requires c.index-table-place.is in
    let cut : g.P.Piece.run c.placed.result ≡ up_to c.args.row (g.P.Piece.run c.index-table-place.result) = cc in
    ap Some cut ∙ sym (ap (option_map (up_to c.args.row)) at)

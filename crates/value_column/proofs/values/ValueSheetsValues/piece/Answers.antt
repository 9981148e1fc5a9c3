use Rattle.std.proofs.Common.{◌≡◌, ◌+◌, ◌-◌, length, replicate, get_or, sym, ap, ◌∙◌, arith}
use Rattle.std.proofs.lemmas.List.{length-replicate, get_or-replicate}
use Rattle.calc_addr.specs.Places.{Rows}
use Rattle.calc_model.specs.declared.value.Value.TheVariants.{Blank}
use Rattle.calc_model.specs.declared.values.Piece.TheVariants as piece
use Rattle.value_column.specs.Sheets.{cell_values}
use Rattle.value_column.proofs.Shown.{cell-is, front-is}
use Rattle.value_column.proofs.values.ValueSheetsValues.piece.Goals as goal

pub returns-in-Some : goal.returns-in-Some
returns-in-Some c =
    let rows : Rows = record { sheet = c.args.sheet; col = c.args.col; first = c.args.first; last = c.args.last } in
    front-is (cell_values c.args.self.now) rows c.piece.result c.piece.ensures.some c.piece.ensures.within
    (λ k h.
    let place : c.args.first - 1 + k ≡ c.args.first + k - 1 = omega (arith, c.requires.from) in
    c.piece.ensures.rows k h ∙ ap (λ i. get_or c.in-Some.column.now.values i Blank) place
    ∙ sym (cell-is c.args.self.now (record { sheet = c.args.sheet; col = c.args.col; row = c.args.first + k }) _ c.in-Some.ensures))

pub returns-in-None : goal.returns-in-None
returns-in-None c =
    let rows : Rows = record { sheet = c.args.sheet; col = c.args.col; first = c.args.first; last = c.args.last } in
    let len : length (replicate (c.args.last + 1 - c.args.first) Blank) ≡ c.args.last + 1 - c.args.first = length-replicate (c.args.last + 1 - c.args.first) Blank in
    front-is (cell_values c.args.self.now) rows (piece.Blank (c.args.last + 1 - c.args.first)) (omega (arith, len, c.requires.in_order)) (omega (arith, len, c.requires.in_order))
    (λ k h.
    get_or-replicate (c.args.last + 1 - c.args.first) k Blank Blank (omega (arith, len))
    ∙ sym (cell-is c.args.self.now (record { sheet = c.args.sheet; col = c.args.col; row = c.args.first + k }) _ c.in-None.ensures))

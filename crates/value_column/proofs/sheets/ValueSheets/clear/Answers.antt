use Rattle.std.proofs.Common.{◌≡◌, ◌≤◌, Option, sym, ap, ◌∙◌, Some, None, length, arith}
use Rattle.std.proofs.lemmas.List.{get_or_past, get_or_default}
use Rattle.std.proofs.Math.ListN.{get_or}
use Rattle.calc_addr.specs.declared.cell.TheConstants.{LAST_ROW}
use Rattle.calc_addr.specs.Places.{Rows}
use Rattle.value_column.specs.Sheets.{column_place, shown_in}
use Rattle.value_column.specs.ValueRows.{ValueRows}
use Rattle.value_column.proofs.Unused.{unused-rows, used-rows}
use Rattle.value_column.proofs.sheets.ValueSheets.clear.Goals as goal
use Rattle.value_column.proofs.sheets.ValueSheets.clear.Goals.{in-Some, in-None}

pub returns-then-place-len-clause-rows : goal.returns-then-place-len-clause-rows
returns-then-place-len-clause-rows c =
    let place : c.place_of-place.result ≡ column_place c.args.run.sheet c.args.run.col = c.place_of-place.ensures.place ∙ ap (λ (r : Rows). column_place r.sheet r.col) c.run.view_is in
    let none : get_or c.self.inside.columns.items c.place_of-place.result None ≡ None =
    get_or_past c.self.inside.columns.items c.place_of-place.result None (omega (arith, c.len.ensures, c.if-place-len.true)) in
    ap (λ sheets. length (shown_in sheets (column_place c.args.run.sheet c.args.run.col))) (sym c.self.view_is)
    ∙ ap (λ p. length (shown_in c.self.inside.columns.items p)) (sym place)
    ∙ unused-rows c.self.inside.columns.items c.place_of-place.result none

pub returns-clause-rows : goal.returns-clause-rows
returns-clause-rows c =
    let sheets = c.self.inside.columns.items in
    let place : c.place_of-place.result ≡ column_place c.args.run.sheet c.args.run.col = c.place_of-place.ensures.place ∙ ap (λ (r : Rows). column_place r.sheet r.col) c.run.view_is in
    let here : (o : Option ValueRows) → c.index_mut.result.now ≡ o → get_or sheets c.place_of-place.result None ≡ o =
    λ o e. get_or_default sheets c.place_of-place.result None c.index_mut.result.now (omega (arith, c.len.ensures, c.if-place-len.false)) ∙ sym c.index_mut.ensures.value ∙ e in
    let all : length (shown_in sheets c.place_of-place.result) ≡ LAST_ROW =
    elim c.match-index_mut.branch [
      | in-Some w ↦ used-rows sheets c.place_of-place.result w.in-Some.column (here (Some w.in-Some.column) w.in-Some.is) w.clear.ensures.rows
      | in-None w ↦ unused-rows sheets c.place_of-place.result (here None w.in-None.is)
    ] in
    ap (λ s. length (shown_in s (column_place c.args.run.sheet c.args.run.col))) (sym c.self.view_is) ∙ ap (λ p. length (shown_in sheets p)) (sym place) ∙ all

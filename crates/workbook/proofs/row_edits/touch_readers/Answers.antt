use Rattle.std.proofs.Common.{◌≡◌, ◌||◌, ◌&&◌, true, slice_get, take, Some, sym, ap, ◌∙◌, arith}
use Rattle.std.specs.List.{list_any}
use Rattle.std.proofs.lemmas.Option.{get_or_from_slice_get, slice_get_within}
use Rattle.calc_addr.specs.Places.{covers}
use Rattle.calc_model.specs.Listeners.{listed}
use Rattle.calc_model.specs.Touched.{CellSet}
use Rattle.dirty_spread.specs.Waves.{has}
use Rattle.listener_hub.specs.Hubs.{areas_read}
use Rattle.workbook.specs.Readers.{changes_area}
use Rattle.workbook.specs.Touched.{Parts, lies_in}
use Rattle.workbook.proofs.Tests.{all_walked, already, no_item, one_walked}
use Rattle.workbook.proofs.row_edits.touch_readers.Goals as goal
use Rattle.workbook.proofs.row_edits.touch_readers.Goals.{in-Some+then-not-covers+in_ok-touch_reader, in-Some+else-not-covers, in_default}

pub loop-place-preserved : goal.loop-place-preserved
loop-place-preserved c =
    let cells = c.args.formulas.now in
    let i = c.loop-place.place in
    let test : CellSet = λ q. list_any (changes_area c.args.change) (listed (areas_read c.args.hub.now q)) in
    elim c.match-cell.branch [
      | in-Some+then-not-covers+in_ok-touch_reader w ↦
          let cell = w.in-Some.cell in
          let here : slice_get cells i ≡ Some cell = sym c.cell.ensures ∙ w.in-Some.is in
          record {
            cells = one_walked cells test (lies_in c.args.touched.now) i cell (lies_in c.loop-place.touched) (lies_in c.match-cell.touched)
                (slice_get_within cells i cell here) (sym (get_or_from_slice_get cells i cell cell here)) c.loop-place.invariant.cells
                (λ q. ap (λ (t : Parts). lies_in t q) w.touched-is ∙ w.in_ok-touch_reader.ensures.cells q);
            names = ap (λ (t : Parts). t.names) w.touched-is ∙ w.touch_reader.ensures.names ∙ c.loop-place.invariant.names;
          }
      | in-Some+else-not-covers w ↦
          let cell = w.in-Some.cell in
          let here : slice_get cells i ≡ Some cell = sym c.cell.ensures ∙ w.in-Some.is in
          let old = lies_in c.args.touched.now in
          let now = lies_in c.loop-place.touched in
          let inside : covers c.args.inside cell ≡ true = sym w.covers.ensures ∙ w.if-not-covers.false in
          let lies : now cell ≡ true = c.loop-place.invariant.cells cell ∙ ap (λ b. b || (has (take i cells) cell && test cell)) (c.requires.inside cell inside) in
          record {
            cells = one_walked cells test old i cell now (lies_in c.match-cell.touched)
                (slice_get_within cells i cell here) (sym (get_or_from_slice_get cells i cell cell here)) c.loop-place.invariant.cells
                (λ q. ap (λ (t : Parts). lies_in t q) w.touched-is ∙ already now test cell q lies);
            names = ap (λ (t : Parts). t.names) w.touched-is ∙ c.loop-place.invariant.names;
          }
      | in_default w ↦ absurd (no_item cells i (sym c.cell.ensures) w.in_default.not-Some (omega (arith, c.loop-place-test.true, c.len-place-end.ensures)))
    ]

pub returns-clause-cells : goal.returns-clause-cells
returns-clause-cells c =
    all_walked c.args.formulas.now (λ q. list_any (changes_area c.args.change) (listed (areas_read c.args.hub.now q))) (lies_in c.args.touched.now) c.loop-place.place (lies_in c.loop-place.touched) (omega (arith, c.loop-place-test.false, c.len-place-end.ensures)) c.loop-place.invariant.cells

use Rattle.std.proofs.Common.{◌≡◌, slice_get, Some, sym, ap, ◌∙◌, ◌++◌, ◌∷◌, [], Vec, Global, arith}
use Rattle.std.proofs.lemmas.Option.{get_or_from_slice_get, slice_get_within}
use Rattle.calc_addr.specs.Places.{Place, Rows}
use Rattle.calc_addr.specs.declared.cell.Run.{Run}
use Rattle.dirty_spread.specs.Marking.{is_in_any}
use Rattle.recalc.proofs.Listed.{kept_more, kept_not, no_item}
use Rattle.recalc.proofs.recalculating.kept_runs.Goals as goal
use Rattle.recalc.proofs.recalculating.kept_runs.Goals.{in-Some+then-is_kept+in_ok-push, in-Some+else-is_kept, in_default}

pub loop-place-preserved : goal.loop-place-preserved
loop-place-preserved c =
    let cells = c.args.cells.now in
    let i = c.loop-place.place in
    let at : (cell : Place) → c.cell.result ≡ Some cell → slice_get cells i ≡ Some cell = λ cell is. sym c.cell.ensures ∙ is in
    elim c.match-cell.branch [
      | in-Some+then-is_kept+in_ok-push w ↦
          let cell = w.in-Some.cell in
          let here = at cell w.in-Some.is in
          kept_more c.args.parts.now c.args.stale.now cells i cell (slice_get_within cells i cell here) (sym (get_or_from_slice_get cells i cell cell here)) c.loop-place.runs.items c.match-cell.runs.items
          (sym w.is_kept.ensures ∙ w.if-is_kept.true)
          (ap (λ (v : Vec Run Global). v.items) w.runs-is ∙ w.in_ok-push.ensures.items ∙ ap (λ (r : Rows). c.loop-place.runs.items ++ r ∷ []) w.run_of.ensures) c.loop-place.invariant
      | in-Some+else-is_kept w ↦
          let cell = w.in-Some.cell in
          let here = at cell w.in-Some.is in
          λ q. ap (λ (v : Vec Run Global). is_in_any q v.items) w.runs-is ∙ kept_not c.args.parts.now c.args.stale.now cells i cell (slice_get_within cells i cell here) (sym (get_or_from_slice_get cells i cell cell here)) c.loop-place.runs.items
          (sym w.is_kept.ensures ∙ w.if-is_kept.false) c.loop-place.invariant q
      | in_default w ↦ absurd (no_item cells i (sym c.cell.ensures) w.in_default.not-Some (omega (arith, c.loop-place-test.true, c.len-place-end.ensures)))
    ]

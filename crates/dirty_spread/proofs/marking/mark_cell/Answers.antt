use Rattle.std.proofs.Common.{◌≡◌, ℕ, ◌+◌, ◌-◌, Some, true, slice_get, List, sym, ap, subst, ◌∙◌}
use Rattle.std.specs.Prelude.{OnOk}
use Rattle.std.specs.List.{AllPairs, Contains}
use Rattle.std.proofs.lemmas.Option.{get_or_from_slice_get, slice_get_within}
use Rattle.calc_addr.specs.Places.{IsBefore, IsRectangle, Place, Rectangle, Rows, corner, covers}
use Rattle.run_unions.specs.Unions.{is_in}
use Rattle.dirty_spread.specs.Marking.{IsFormulaIn, Marks, MarksFront}
use Rattle.dirty_spread.proofs.Cells.{on_ok}
use Rattle.dirty_spread.proofs.Listing.{StandsAt}
use Rattle.dirty_spread.proofs.Stepping.{corner_in, corner_run, covers_corner, in_corner, marked_as, none_marked, only_cell, run_marked}
use Rattle.dirty_spread.proofs.marking.mark_cell.Goals as goal

module _ (cells : List Place) (in_order : AllPairs IsBefore cells) (a : Rectangle) (area : IsRectangle a) (col : a.first_col ≡ a.last_col) (row : a.first_row ≡ a.last_row) where
  wanted : (q : Place) → IsFormulaIn cells a q → is_in q (corner_run a) ≡ true
  wanted q h = subst (λ p. is_in p (corner_run a) ≡ true) (sym (only_cell a q col row h.1)) (corner_in a)

  there : (i : ℕ) → slice_get cells i ≡ Some (corner a) → StandsAt cells i (corner a)
  there i at = record { within = slice_get_within cells i (corner a) at; here = get_or_from_slice_get cells i (corner a) (corner a) at }

  held : (i : ℕ) → StandsAt cells i (corner a) → (q : Place) → is_in q (corner_run a) ≡ true → Contains cells q
  held i at q h = subst (Contains cells) (sym (in_corner a q h)) (i, at.within, at.here)

  marked : (i : ℕ) → slice_get cells i ≡ Some (corner a) → {old new : List _} {before after : List Rows} → MarksFront (corner_run a) i (a.first_row + 1 - a.first_row) old new before after → Marks cells (IsFormulaIn cells a) (IsFormulaIn cells a) old new before after
  marked i at {old = old} {new = new} {before = before} {after = after} marks =
      let stands = there i at in
      marked_as cells wanted (λ q h. (held i stands q h, subst (λ p. covers a p ≡ true) (sym (in_corner a q h)) (covers_corner a area.cols_in_order area.rows_in_order)))
      (run_marked cells in_order (corner_run a) i old new before after stands (held i stands) marks)

pub returns-in-Some : goal.returns-in-Some
returns-in-Some c =
    let a = c.args.area.now in
    let area : IsRectangle a = subst IsRectangle c.area.view_is c.area.invariant in
    let at : slice_get c.args.formulas.now c.in-Some.from ≡ Some (corner a) = c.in-Some.ensures.at ∙ ap (λ r. Some (corner r)) c.area.view_is in
    on_ok c.mark_rows.result (marked c.args.formulas.now c.requires.in_order a area c.requires.column c.requires.row c.in-Some.from at)
    (subst (λ (r : Rectangle). OnOk c.mark_rows.result (MarksFront (corner_run r) c.in-Some.from (r.first_row + 1 - r.first_row) c.args.marks.now c.mark_rows.new.marks c.args.found.now.items c.mark_rows.new.found.items)) c.area.view_is c.mark_rows.ensures)

pub returns-in-None : goal.returns-in-None
returns-in-None c =
    let a = c.args.area.now in
    marked_as c.args.formulas.now
    (λ q h. c.in-None.ensures.absent (subst (Contains c.args.formulas.now) (only_cell a q c.requires.column c.requires.row h.1 ∙ sym (ap corner c.area.view_is)) h.0))
    (λ q h. h)
    (none_marked c.args.formulas.now (IsFormulaIn c.args.formulas.now a) c.args.marks.now c.args.found.now.items)

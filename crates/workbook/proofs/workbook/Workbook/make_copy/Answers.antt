use Rattle.std.proofs.Common.{◌≡◌, ◌≤◌, ◌||◌, length, refl, subst, sym}
use Rattle.calc_addr.specs.Places.{Place, Rectangle, covers}
use Rattle.calc_model.specs.declared.edit.Edit.TheVariants.{Copy}
use Rattle.calc_model.specs.declared.limits.TheConstants.{MOST_CELLS}
use Rattle.calc_model.specs.CellEdits.{after_copy, area_at}
use Rattle.workbook.specs.Touched.{lies_in}
use Rattle.workbook.specs.Workbook.{Made, State}
use Rattle.book_parts.proofs.LeftCells.{copy_leaves}
use Rattle.workbook.proofs.RowChanges.{on_ok_both}
use Rattle.workbook.proofs.Staleness.{stale_more}
use Rattle.workbook.proofs.Steps.{copy_step}
use Rattle.workbook.proofs.workbook.Workbook.make_copy.Goals as goal

pub returns : goal.returns
returns c =
    let area = c.args.area in
    let to = c.args.to in
    let before : State = record { book = c.self.inside.book.book; spent = c.self.inside.book.spent; results = c.self.inside.results; touched = c.self.inside.touched; dead = c.self.inside.dead } in
    let after : State = record { book = c.copy.new.self.book; spent = c.copy.new.self.spent; results = c.self.inside.results; touched = c.add_area.new.self; dead = c.self.inside.dead } in
    let room : length (after_copy before.book.cells area to) ≤ MOST_CELLS = subst (λ (state : State). length (after_copy state.book.cells area to) ≤ MOST_CELLS) (sym c.self.view_is) c.requires.room in
    let touches = subst (λ (a : Rectangle). (q : Place) → lies_in after.touched q ≡ (lies_in before.touched q || covers a q)) c.area_at.ensures c.in_ok-add_area.ensures.touched in
    on_ok_both c.copy.result
    (λ cells ready. subst (λ state. Made state (Copy area to) after) c.self.view_is (record {
      step = copy_step before.book area to after.book c.requires.sheet c.requires.place cells c.copy.ensures.names room;
      book = c.copy.ensures.book;
      stale = stale_more before after (covers (area_at area to)) c.copy.ensures.names (copy_leaves before.book after.book area to cells) c.add_area.ensures.names touches;
      alive = refl;
      ready = ready;
      results = refl;
    }))
    c.copy.ensures.cells c.copy.ensures.ready

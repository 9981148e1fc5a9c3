use Rattle.std.proofs.Common.{◌≤◌, length, refl, subst, sym}
use Rattle.calc_addr.specs.Places.{covers}
use Rattle.calc_model.specs.declared.edit.Edit.TheVariants.{Fill}
use Rattle.calc_model.specs.declared.limits.TheConstants.{MOST_CELLS}
use Rattle.calc_model.specs.Books.{content_at}
use Rattle.workbook.specs.Workbook.{Made, State}
use Rattle.book_parts.proofs.LeftCells.{fill_leaves}
use Rattle.workbook.proofs.RowChanges.{on_ok_both}
use Rattle.workbook.proofs.Staleness.{stale_more}
use Rattle.workbook.proofs.Steps.{fill_step, filled}
use Rattle.workbook.proofs.workbook.Workbook.make_fill.Goals as goal

pub returns : goal.returns
returns c =
    let from = c.args.from in
    let area = c.args.area in
    let before : State = record { book = c.self.inside.book.book; spent = c.self.inside.book.spent; results = c.self.inside.results; touched = c.self.inside.touched; dead = c.self.inside.dead } in
    let after : State = record { book = c.fill.new.self.book; spent = c.fill.new.self.spent; results = c.self.inside.results; touched = c.add_area.new.self; dead = c.self.inside.dead } in
    let room : length (filled before.book from area) ≤ MOST_CELLS = subst (λ (state : State). length (filled state.book from area) ≤ MOST_CELLS) (sym c.self.view_is) c.requires.room in
    on_ok_both c.fill.result
    (λ cells ready. subst (λ state. Made state (Fill from area) after) c.self.view_is (record {
      step = fill_step before.book from area after.book c.requires.sheet cells c.fill.ensures.names room;
      book = c.fill.ensures.book;
      stale = stale_more before after (covers area) c.fill.ensures.names (fill_leaves before.book after.book from (content_at before.book from) area cells) c.add_area.ensures.names c.in_ok-add_area.ensures.touched;
      alive = refl;
      ready = ready;
      results = refl;
    }))
    c.fill.ensures.cells c.fill.ensures.ready

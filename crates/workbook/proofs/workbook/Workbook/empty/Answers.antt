use Rattle.std.proofs.Common.{ap, refl, subst}
use Rattle.calc_addr.specs.Places.{covers}
use Rattle.calc_model.specs.declared.edit.Edit.TheVariants.{Clear}
use Rattle.workbook.specs.Touched.{Parts}
use Rattle.workbook.specs.Workbook.{Made, State}
use Rattle.book_parts.proofs.LeftCells.{clear_leaves}
use Rattle.workbook.proofs.Staleness.{stale_more}
use Rattle.workbook.proofs.Steps.{clear_step}
use Rattle.workbook.proofs.workbook.Workbook.empty.Goals as goal

pub returns-in-Ok-clause-done : goal.returns-in-Ok-clause-done
returns-in-Ok-clause-done c =
    let before : State = record { book = c.self.inside.book.book; spent = c.self.inside.book.spent; results = c.self.inside.results; touched = c.self.inside.touched; dead = c.self.inside.dead } in
    let after : State = record { book = c.clear.new.self.book; spent = c.clear.new.self.spent; results = c.self.inside.results; touched = c.push_area.new.self; dead = c.self.inside.dead } in
    subst (λ state. Made state (Clear c.args.area) after) c.self.view_is (record {
      step = clear_step before.book after.book c.args.area c.in-Ok.ensures.cells c.clear.ensures.names;
      book = c.clear.ensures.book;
      stale = stale_more before after (covers c.args.area) c.clear.ensures.names (clear_leaves before.book after.book c.args.area c.in-Ok.ensures.cells) (ap (λ (parts : Parts). parts.names) c.in_ok-push_area.ensures.parts) c.in_ok-push_area.ensures.touched;
      alive = refl;
      ready = c.in-Ok.ensures.ready;
      results = refl;
    })

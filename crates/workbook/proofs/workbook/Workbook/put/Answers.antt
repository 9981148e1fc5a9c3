use Rattle.std.proofs.Common.{◌≤◌, false, length, ap, refl, subst, sym, ◌∙◌}
use Rattle.std.specs.Ordering.{eq_by_cmp}
use Rattle.calc_addr.specs.Places.{place_cmp}
use Rattle.calc_model.specs.declared.edit.Edit.TheVariants.{Set}
use Rattle.calc_model.specs.declared.limits.TheConstants.{MOST_CELLS}
use Rattle.calc_model.specs.Books.{Book, with_content}
use Rattle.workbook.specs.Touched.{Parts}
use Rattle.workbook.specs.Workbook.{Made, State, mended}
use Rattle.book_parts.proofs.LeftCells.{set_leaves}
use Rattle.workbook.proofs.Sets.{taken_back}
use Rattle.workbook.proofs.Staleness.{stale_more}
use Rattle.workbook.proofs.Steps.{set_step}
use Rattle.workbook.proofs.workbook.Workbook.put.Goals as goal

pub returns-in-Ok-clause-done : goal.returns-in-Ok-clause-done
returns-in-Ok-clause-done c =
    let before : State = record { book = c.self.inside.book.book; spent = c.self.inside.book.spent; results = c.self.inside.results; touched = c.self.inside.touched; dead = c.self.inside.dead } in
    let after : State = record { book = c.set.new.self.book; spent = c.set.new.self.spent; results = c.self.inside.results; touched = c.add_cell.new.self; dead = c.self.inside.dead } in
    let cells = c.in-Ok.ensures.cells in
    let room : length (with_content before.book.cells c.args.cell c.args.content.now) ≤ MOST_CELLS = subst (λ (state : State). length (with_content state.book.cells c.args.cell c.args.content.now) ≤ MOST_CELLS) (sym c.self.view_is) c.requires.room in
    subst (λ state. Made state (Set c.args.cell c.args.content.now) after) c.self.view_is (record {
      step = set_step before.book after.book c.args.cell c.args.content.now cells c.set.ensures.names room;
      book = c.set.ensures.book;
      stale = stale_more before after (eq_by_cmp place_cmp c.args.cell) c.set.ensures.names
          (set_leaves before.book after.book c.args.cell c.args.content.now cells) (ap (λ (parts : Parts). parts.names) c.in_ok-added.ensures.parts) c.in_ok-added.ensures.touched;
      alive = refl;
      ready = c.in-Ok.ensures.ready;
      results = refl;
    })

pub returns-then-added-clause-kept : goal.returns-then-added-clause-kept
returns-then-added-clause-kept c =
    let back = taken_back c.self.inside.touched c.add_cell.new.self c.remove_cell.new.self c.args.cell c.in_ok-added.ensures.parts c.remove_cell.ensures (sym c.if-added.true ∙ c.in_ok-added.ensures.added) in
    ap (λ (book : Book). record { book = book; spent = false; results = c.self.inside.results; touched = c.remove_cell.new.self; dead = c.self.inside.dead }) c.in-Err.ensures.kept
    ∙ ap (λ (touched : Parts). record { book = c.self.inside.book.book; spent = false; results = c.self.inside.results; touched = touched; dead = c.self.inside.dead }) back
    ∙ ap mended c.self.view_is

use Rattle.std.proofs.Common.{◌≡◌, ◌||◌, false, ap, subst, sym, ◌∙◌}
use Rattle.calc_addr.specs.Places.{Place, covers}
use Rattle.calc_model.specs.Books.{Book, IsBook}
use Rattle.calc_model.specs.NamedAreas.{names_after_deletion}
use Rattle.calc_model.specs.RowEdits.{cells_after_deletion, is_changed_by_deletion}
use Rattle.calc_model.specs.Touched.{reads_any, rows_from}
use Rattle.workbook.specs.Touched.{Parts, lies_in}
use Rattle.workbook.specs.Workbook.{State}
use Rattle.workbook.proofs.RowChanges.{deletion_stale, on_ok_both, on_ok_so}
use Rattle.workbook.proofs.Steps.{delete_step}
use Rattle.workbook.proofs.workbook.Workbook.make_deletion.Goals as goal

pub returns-clause-done : goal.returns-clause-done
returns-clause-done c =
    let sheet = c.args.sheet in
    let place = c.args.place in
    let count = c.args.count in
    let before : State = c.args.self.now in
    let after : State = record { book = c.delete_rows.new.self.book; spent = c.delete_rows.new.self.spent; results = c.self.inside.results; touched = c.self.inside.touched; dead = c.self.inside.dead } in
    let book : c.self.inside.book.book ≡ before.book = ap (λ (state : State). state.book) c.self.view_is ∙ c.in_ok-touch_rows.ensures.book in
    let was : IsBook before.book = subst IsBook book c.delete_rows.ensures.was_book in
    let touched : after.touched.names ≡ before.touched.names = ap (λ (state : State). state.touched.names) c.self.view_is ∙ c.in_ok-touch_rows.ensures.names in
    let joined = subst (λ (parts : Parts). (q : Place) → lies_in parts q ≡ (lies_in before.touched q || (covers (rows_from sheet place) q || reads_any before.book (is_changed_by_deletion sheet place count) q))) (sym (ap (λ (state : State). state.touched) c.self.view_is)) c.in_ok-touch_rows.ensures.touched in
    on_ok_both c.delete_rows.result
    (λ made (others : (after.book.names ≡ names_after_deletion sheet place count c.self.inside.book.book.names) × (after.spent ≡ false)).
    let named : after.book.names ≡ names_after_deletion sheet place count before.book.names = others.0 ∙ ap (λ (b : Book). names_after_deletion sheet place count b.names) book in
    let cells : after.book.cells ≡ cells_after_deletion sheet place count before.book.cells = made ∙ ap (λ (b : Book). cells_after_deletion sheet place count b.cells) book in
    record {
      step = delete_step before.book sheet place count after.book c.requires.rows cells named;
      book = c.delete_rows.ensures.book;
      stale = deletion_stale before after sheet place count was c.delete_rows.ensures.book touched cells named joined;
      ready = others.1;
      alive = ap (λ (state : State). state.dead) c.self.view_is ∙ c.in_ok-touch_rows.ensures.alive;
      results = ap (λ (state : State). state.results) c.self.view_is ∙ c.in_ok-touch_rows.ensures.results;
    })
    c.delete_rows.ensures.cells (on_ok_both c.delete_rows.result (λ names ready. (names, ready)) c.delete_rows.ensures.names c.delete_rows.ensures.ready)

pub returns-clause-was_book : goal.returns-clause-was_book
returns-clause-was_book c =
    let before : State = c.args.self.now in
    let book : c.self.inside.book.book ≡ before.book = ap (λ (state : State). state.book) c.self.view_is ∙ c.in_ok-touch_rows.ensures.book in
    on_ok_so c.delete_rows.result (subst IsBook book c.delete_rows.ensures.was_book)

use Rattle.std.proofs.Common.{◌≡◌, ◌||◌, ◌&&◌, false, ap, subst, ◌∙◌}
use Rattle.std.specs.List.{list_any}
use Rattle.std.proofs.lemmas.Result.{on_ok_weaker}
use Rattle.calc_addr.specs.Places.{Place, covers}
use Rattle.calc_model.specs.Books.{Book}
use Rattle.calc_model.specs.Listeners.{listed}
use Rattle.calc_model.specs.Reads.{reads}
use Rattle.calc_model.specs.Stale.{is_formula_cell}
use Rattle.calc_model.specs.Touched.{rows_from}
use Rattle.calc_model.proofs.Reached.{or_true}
use Rattle.listener_hub.specs.Hubs.{areas_read}
use Rattle.formula_listeners.specs.Held.{HoldsReads}
use Rattle.dirty_spread.specs.Waves.{has}
use Rattle.workbook.specs.Readers.{changes_area}
use Rattle.workbook.specs.Touched.{lies_in}
use Rattle.workbook.specs.Workbook.{State}
use Rattle.workbook.proofs.RowChanges.{hub_reads}
use Rattle.workbook.proofs.Tests.{has_by, or_moved}
use Rattle.workbook.proofs.workbook.Workbook.touch_rows.Goals as goal

pub returns-clause-touched : goal.returns-clause-touched
returns-clause-touched c =
    let changes = changes_area c.args.change in
    let before : State = record { book = c.self.inside.book.book; spent = c.self.inside.book.spent; results = c.self.inside.results; touched = c.self.inside.touched; dead = c.self.inside.dead } in
    let read = areas_read c.hub.result.now in
    let formulas = c.in_ok-formulas.formulas in
    let ready : before.spent ≡ false = ap (λ (s : State). s.spent) c.self.view_is ∙ c.requires.ready in
    let holds : HoldsReads read before.book = c.hub.ensures.holds ready in
    let exact : (q : Place) → has formulas q ≡ is_formula_cell before.book q = λ q. has_by formulas q (is_formula_cell c.parts.result.now q) (c.in_ok-formulas.ensures.exact q) ∙ ap (λ (b : Book). is_formula_cell b q) c.parts.ensures in
    on_ok_weaker c.touch_readers.result
    (λ touches. subst (λ (state : State). (q : Place) → lies_in c.touch_readers.new.touched q ≡ (lies_in state.touched q || (covers (rows_from c.args.sheet c.args.place) q || list_any changes (reads state.book q)))) c.self.view_is
    (λ q.
    touches q
    ∙ ap (λ b. lies_in c.add_area.new.self q || (b && list_any changes (listed (read q)))) (exact q)
    ∙ ap (λ b. lies_in c.add_area.new.self q || b) (hub_reads before.book changes q read holds)
    ∙ ap (λ b. b || list_any changes (reads before.book q)) (c.in_ok-add_area.ensures.touched q)
    ∙ or_moved (lies_in before.touched q) (covers (rows_from c.args.sheet c.args.place) q) (list_any changes (reads before.book q))))
    c.touch_readers.ensures.cells

pub touch_readers-requires-clause-inside : goal.touch_readers-requires-clause-inside
touch_readers-requires-clause-inside c = λ q inside.
    c.in_ok-add_area.ensures.touched q ∙ ap (λ b. lies_in c.self.inside.touched q || b) inside ∙ or_true (lies_in c.self.inside.touched q)

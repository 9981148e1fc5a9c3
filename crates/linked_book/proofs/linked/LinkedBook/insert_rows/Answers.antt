use Rattle.std.proofs.Common.{◌≡◌, false, ap, sym, subst, ◌∙◌}
use Rattle.calc_model.specs.Books.{Book}
use Rattle.calc_model.specs.RowEdits.{is_pushed_out}
use Rattle.listener_hub.specs.Hubs.{areas_read}
use Rattle.listener_hub.specs.Known.{Known}
use Rattle.listener_hub.specs.Moves.{KeepsAll, insertion}
use Rattle.linked_book.specs.Linked.{Linked}
use Rattle.linked_book.proofs.linked.LinkedBook.insert_rows.Goals as goal

pub insert_rows-requires-clause-stays : goal.insert_rows-requires-clause-stays
insert_rows-requires-clause-stays c =
    let sheet = c.args.sheet in
    let place = c.args.place in
    let count = c.args.count in
    let before : Book = c.self.inside.parts in
    let was_ready : c.self.inside.hub.spent ≡ false = ap (λ (l : Linked). l.spent) c.self.view_is ∙ c.requires.ready in
    let inside : is_pushed_out sheet place count before.cells ≡ false = ap (λ (l : Linked). is_pushed_out sheet place count l.book.cells) c.self.view_is ∙ c.requires.inside in
    subst (λ (h : Known). KeepsAll (insertion sheet place count) (areas_read h)) (sym c.in_ok-settle.ensures.same)
    (c.reads_go_with_rows.ensures.kept before sheet place count (areas_read c.self.inside.hub) inside (c.self.invariant was_ready))

use Rattle.std.proofs.Common.{◌≡◌, true, false, ap, sym, subst, ◌∙◌}
use Rattle.std.specs.Prelude.{OnErr, OnOk}
use Rattle.calc_addr.specs.Places.{Rectangle, single}
use Rattle.calc_model.specs.Books.{Book, with_content}
use Rattle.listener_hub.specs.Hubs.{areas_read}
use Rattle.listener_hub.specs.Known.{Known}
use Rattle.formula_listeners.specs.Held.{HoldsOutside, HoldsReads}
use Rattle.linked_book.specs.Linked.{Linked}
use Rattle.linked_book.proofs.CellsAfter.{set_elsewhere, set_here}
use Rattle.linked_book.proofs.Made.{made_both, where_made}
use Rattle.linked_book.proofs.linked.LinkedBook.set.Goals as goal

pub invariant_of-self-2 : goal.invariant_of-self-2
invariant_of-self-2 c = λ ready.
    let before : Book = c.self.inside.parts in
    let after : Book = c.set-set.new.self in
    let cell = c.args.cell in
    let content = c.args.content.now in
    let silent : Known = c.silence.new.hub in
    let hub : Known = c.listen_content.new.hub in
    let done = c.set-set.result in
    let was_ready : c.self.inside.hub.spent ≡ false = ap (λ (l : Linked). l.spent) c.self.view_is ∙ c.requires.ready in
    let outside : HoldsOutside (single cell) (areas_read silent) before =
    subst (λ (a : Rectangle). HoldsOutside a (areas_read silent) before) c.area_of.ensures (c.in_ok-silence.ensures.held before (c.self.invariant was_ready)) in
    let set : after.cells ≡ with_content before.cells cell content → HoldsReads (areas_read hub) after = λ cells.
    c.in_ok-listen_content.ensures.held after c.set-set.ensures.names (set_here before after cell content c.are_book.ensures.cells_in_order cells)
    (c.reads_go_with_cells.ensures.outside before after (single cell) (areas_read silent) c.set-set.ensures.names (set_elsewhere before after cell content cells) outside) in
    where_made done c.settle.new.hub.spent (HoldsReads (areas_read c.settle.new.hub) after)
    (subst (λ r. OnErr r (c.settle.new.hub.spent ≡ true)) c.settle.ensures.result c.settle.ensures.spent)
    ready
    (made_both done (after.cells ≡ with_content before.cells cell content) (c.settle.new.hub ≡ hub) (HoldsReads (areas_read c.settle.new.hub) after)
    (λ cells same. subst (λ (h : Known). HoldsReads (areas_read h) after) (sym same) (set cells))
    c.set-set.ensures.cells
    (subst (λ r. OnOk r (c.settle.new.hub ≡ hub)) c.settle.ensures.result c.settle.ensures.same))

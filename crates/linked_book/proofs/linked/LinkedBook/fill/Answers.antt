use Rattle.std.proofs.Common.{◌≡◌, false, ap, sym, subst, ◌∙◌}
use Rattle.calc_model.specs.Books.{Book, content_at}
use Rattle.calc_model.specs.CellEdits.{after_fill}
use Rattle.listener_hub.specs.Hubs.{areas_read}
use Rattle.listener_hub.specs.Known.{Known}
use Rattle.formula_listeners.specs.Held.{HoldsOutside}
use Rattle.book_parts.proofs.LeftCells.{fill_leaves}
use Rattle.linked_book.specs.Linked.{Linked}
use Rattle.linked_book.proofs.Made.{made_ok}
use Rattle.linked_book.proofs.linked.LinkedBook.fill.Goals as goal

pub listen-requires-clause-outside : goal.listen-requires-clause-outside
listen-requires-clause-outside c =
    let before : Book = c.self.inside.parts in
    let after : Book = c.fill-filled.new.self in
    let area = c.args.area in
    let from = c.args.from in
    let hub : Known = c.silence.new.hub in
    let was_ready : c.self.inside.hub.spent ≡ false = ap (λ (l : Linked). l.spent) c.self.view_is ∙ c.requires.ready in
    let outside : HoldsOutside area (areas_read hub) before = c.in_ok-silence.ensures.held before (c.self.invariant was_ready) in
    let cells : after.cells ≡ after_fill before.cells from (content_at before from) area =
    made_ok c.fill-filled.result c.in_ok-settle.field-0 _ (sym c.settle.ensures.result ∙ c.in_ok-settle.was) c.fill-filled.ensures.cells in
    subst (λ (h : Known). HoldsOutside area (areas_read h) after) (sym c.in_ok-settle.ensures.same)
    (c.reads_go_with_cells.ensures.outside before after area (areas_read hub) c.fill-filled.ensures.names (fill_leaves before after from (content_at before from) area cells) outside)

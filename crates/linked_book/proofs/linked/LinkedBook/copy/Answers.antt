use Rattle.std.proofs.Common.{◌≡◌, false, ap, sym, subst, ◌∙◌}
use Rattle.calc_addr.specs.Places.{Rectangle}
use Rattle.calc_model.specs.Books.{Book}
use Rattle.calc_model.specs.CellEdits.{after_copy, area_at}
use Rattle.listener_hub.specs.Hubs.{areas_read}
use Rattle.listener_hub.specs.Known.{Known}
use Rattle.formula_listeners.specs.Held.{HoldsOutside}
use Rattle.book_parts.proofs.LeftCells.{copy_leaves}
use Rattle.linked_book.specs.Linked.{Linked}
use Rattle.linked_book.proofs.Made.{made_ok}
use Rattle.linked_book.proofs.linked.LinkedBook.copy.Goals as goal

pub listen-requires-clause-outside : goal.listen-requires-clause-outside
listen-requires-clause-outside c =
    let before : Book = c.self.inside.parts in
    let after : Book = c.copy-copied.new.self in
    let there : Rectangle = area_at c.args.area c.args.to in
    let hub : Known = c.silence.new.hub in
    let was_ready : c.self.inside.hub.spent ≡ false = ap (λ (l : Linked). l.spent) c.self.view_is ∙ c.requires.ready in
    let outside : HoldsOutside there (areas_read hub) before =
    subst (λ (a : Rectangle). HoldsOutside a (areas_read hub) before) c.area_at-there.ensures (c.in_ok-silence.ensures.held before (c.self.invariant was_ready)) in
    let cells : after.cells ≡ after_copy before.cells c.args.area c.args.to =
    made_ok c.copy-copied.result c.in_ok-settle.field-0 _ (sym c.settle.ensures.result ∙ c.in_ok-settle.was) c.copy-copied.ensures.cells in
    subst (λ (a : Rectangle). HoldsOutside a (areas_read c.settle.new.hub) after) (sym c.area_at-there.ensures)
    (subst (λ (h : Known). HoldsOutside there (areas_read h) after) (sym c.in_ok-settle.ensures.same)
    (c.reads_go_with_cells.ensures.outside before after there (areas_read hub) c.copy-copied.ensures.names (copy_leaves before after c.args.area c.args.to cells) outside))

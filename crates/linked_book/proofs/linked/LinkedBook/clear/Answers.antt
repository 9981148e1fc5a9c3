use Rattle.std.proofs.Common.{◌≡◌, true, false, ap, sym, subst, ◌∙◌}
use Rattle.std.specs.Prelude.{OnErr, OnOk}
use Rattle.calc_model.specs.Books.{Book}
use Rattle.calc_model.specs.CellEdits.{without_area}
use Rattle.listener_hub.specs.Hubs.{areas_read}
use Rattle.listener_hub.specs.Known.{Known}
use Rattle.formula_listeners.specs.Held.{HoldsOutside, HoldsReads}
use Rattle.book_parts.proofs.LeftCells.{clear_leaves}
use Rattle.linked_book.specs.Linked.{Linked}
use Rattle.linked_book.proofs.CellsAfter.{emptied}
use Rattle.linked_book.proofs.Made.{made_both, where_made}
use Rattle.linked_book.proofs.linked.LinkedBook.clear.Goals as goal

pub invariant_of-self-2 : goal.invariant_of-self-2
invariant_of-self-2 c = λ ready.
    let before : Book = c.self.inside.parts in
    let after : Book = c.clear-cleared.new.self in
    let area = c.args.area in
    let hub : Known = c.silence.new.hub in
    let done = c.clear-cleared.result in
    let was_ready : c.self.inside.hub.spent ≡ false = ap (λ (l : Linked). l.spent) c.self.view_is ∙ c.requires in
    let outside : HoldsOutside area (areas_read hub) before = c.in_ok-silence.ensures.held before (c.self.invariant was_ready) in
    let cleared : after.cells ≡ without_area before.cells area → HoldsReads (areas_read hub) after = λ cells.
    c.reads_go_with_cells.ensures.none after area (areas_read hub) (emptied before after area cells)
    (c.reads_go_with_cells.ensures.outside before after area (areas_read hub) c.clear-cleared.ensures.names (clear_leaves before after area cells) outside) in
    where_made done c.settle.new.hub.spent (HoldsReads (areas_read c.settle.new.hub) after)
    (subst (λ r. OnErr r (c.settle.new.hub.spent ≡ true)) c.settle.ensures.result c.settle.ensures.spent)
    ready
    (made_both done (after.cells ≡ without_area before.cells area) (c.settle.new.hub ≡ hub) (HoldsReads (areas_read c.settle.new.hub) after)
    (λ cells same. subst (λ (h : Known). HoldsReads (areas_read h) after) (sym same) (cleared cells))
    c.clear-cleared.ensures.cells
    (subst (λ r. OnOk r (c.settle.new.hub ≡ hub)) c.settle.ensures.result c.settle.ensures.same))
